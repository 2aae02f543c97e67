use Rattle.std.proofs.Common.{◌+◌, [], length, ◌∙◌, arith}
use Rattle.std.proofs.lemmas.Slice.{between_to_end}
use Rattle.mime_base.specs.Matching.Elements.{elements}
use Rattle.mime_base.specs.Matching.Folding.{compared}
use Rattle.mime_base.specs.declared.matching.attempt.Halt.TheVariants.{NameEnds}
use Rattle.mime_base.proofs.MatchingLemmas.Attempts.{goes-owed}
use Rattle.mime_base.proofs.MatchingLemmas.Costs.{last-paid, next-paid, passed-paid, star-paid}
use Rattle.mime_base.proofs.MatchingLemmas.Lasts.{ahead-goes_on}
use Rattle.mime_base.proofs.MatchingLemmas.Refused.{end-goes, passed-same, passed-tests, passed-within}
use Rattle.mime_base.proofs.MatchingLemmas.Slides.{decided-from, refused-from, tests-from, tests-next}
use Rattle.mime_base.proofs.matching.slide.Goals as goal

pub loop-endless-preserved : goal.loop-endless-preserved
loop-endless-preserved c =
    let name = c.args.name.now in
    let front = between_to_end name c.loop-endless.start (length name) (omega arith) in
    let within = passed-within name c.loop-endless.start c.count_refused-refused.result c.loop-endless.invariant.place
    (rw front at c.count_refused-refused.ensures.within) in
    let same = passed-same c.args.cased _ name c.loop-endless.start _ (rw front at c.count_refused-refused.ensures.same) in
    let passed = passed-tests c.args.cased _ name c.loop-endless.start _ ((rw front at c.count_refused-refused.ensures.tests) c.requires.star) in
    let at = c.loop-endless.start + c.count_refused-refused.result in
    let left = between_to_end name at (length name) (omega arith) in
    let goes = rw (left, c.in-Refused.is) at c.attempt-tried.ensures.goes in
    let next = refused-from c.args.cased _ name at _ _ goes in
    let made = tests-next c.args.cased _ name at _ _ c.requires.star goes in
    let tests = rw c.in-Refused.is at c.attempt-tried.ensures.tests in
    let before = passed-paid (length c.args.pattern.now) c.loop-endless.start c.loop-endless.tests c.count_refused-refused.result
    c.loop-endless.invariant.spent c.count_refused-refused.ensures.most in
    let paid = next-paid (length c.args.pattern.now) at (c.loop-endless.tests + c.count_refused-refused.result)
    c.attempt-tried.result.tests (at + 1) before c.attempt-tried.ensures.most (omega arith) in
    record {
      place = omega (arith, next.0);
      same = c.loop-endless.invariant.same ∙ same ∙ next.1;
      made = omega (arith, c.loop-endless.invariant.made, passed, made, tests);
      spent = omega (arith, paid);
    }

pub returns-then-start-name-clause-slides : goal.returns-then-start-name-clause-slides
returns-then-start-name-clause-slides c =
    let name = c.args.name.now in
    let front = between_to_end name c.loop-endless.start (length name) (omega arith) in
    let same = passed-same c.args.cased _ name c.loop-endless.start _ (rw front at c.count_refused-refused.ensures.same) in
    let passed = passed-tests c.args.cased _ name c.loop-endless.start _ ((rw front at c.count_refused-refused.ensures.tests) c.requires.star) in
    let es = elements (compared c.args.cased c.args.pattern.now) in
    let at = c.loop-endless.start + c.count_refused-refused.result in
    let goes = end-goes c.args.cased es name at (c.count_refused-refused.ensures.taker c.if-refused-gt0.true).0 c.if-start-name.true in
    let made = tests-from c.args.cased es name at 0 es c.requires.star NameEnds goes (λ ends. absurd cc) in
    record {
      decides = c.loop-endless.invariant.same ∙ same
          ∙ decided-from c.args.cased es name at 0 es NameEnds goes (λ ends. absurd cc) (λ ends. absurd cc);
      tests = omega (arith, c.loop-endless.invariant.made, passed, made);
      least = omega arith;
    }

pub loop-endless-preserved-then-refused_second : goal.loop-endless-preserved-then-refused_second
loop-endless-preserved-then-refused_second c =
    let name = c.args.name.now in
    let front = between_to_end name c.loop-endless.start (length name) (omega arith) in
    let same = passed-same c.args.cased _ name c.loop-endless.start _ (rw front at c.count_refused-refused.ensures.same) in
    let passed = passed-tests c.args.cased _ name c.loop-endless.start _ ((rw front at c.count_refused-refused.ensures.tests) c.requires.star) in
    let at = c.loop-endless.start + c.count_refused-refused.result in
    let within = passed-within name c.loop-endless.start c.count_refused-refused.result c.loop-endless.invariant.place
    (rw front at c.count_refused-refused.ensures.within) in
    let left = between_to_end name at (length name) (omega arith) in
    let goes = rw left at (c.refused_second.ensures.goes c.if-refused_second.true) in
    let next = refused-from c.args.cased _ name at 1 [] goes in
    let made = tests-next c.args.cased _ name at 1 [] c.requires.star goes in
    let before = passed-paid (length c.args.pattern.now) c.loop-endless.start c.loop-endless.tests c.count_refused-refused.result
    c.loop-endless.invariant.spent c.count_refused-refused.ensures.most in
    let paid = next-paid (length c.args.pattern.now) at (c.loop-endless.tests + c.count_refused-refused.result)
    2 (at + 1) before (c.refused_second.ensures.some c.if-refused_second.true) (omega arith) in
    record {
      place = omega (arith, next.0);
      same = c.loop-endless.invariant.same ∙ same ∙ next.1;
      made = omega (arith, c.loop-endless.invariant.made, passed, made);
      spent = omega (arith, paid);
    }

pub returns-in_default : goal.returns-in_default
returns-in_default c =
    let name = c.args.name.now in
    let front = between_to_end name c.loop-endless.start (length name) (omega arith) in
    let within = passed-within name c.loop-endless.start c.count_refused-refused.result c.loop-endless.invariant.place
    (rw front at c.count_refused-refused.ensures.within) in
    let same = passed-same c.args.cased _ name c.loop-endless.start _ (rw front at c.count_refused-refused.ensures.same) in
    let passed = passed-tests c.args.cased _ name c.loop-endless.start _ ((rw front at c.count_refused-refused.ensures.tests) c.requires.star) in
    let at = c.loop-endless.start + c.count_refused-refused.result in
    let before = passed-paid (length c.args.pattern.now) c.loop-endless.start c.loop-endless.tests c.count_refused-refused.result
    c.loop-endless.invariant.spent c.count_refused-refused.ensures.most in
    let left = between_to_end name at (length name) (omega arith) in
    let goes = rw left at c.attempt-tried.ensures.goes in
    let owed = goes-owed _ _ _ _ _ c.attempt-tried.ensures.goes in
    let made = tests-from c.args.cased _ name at _ _ c.requires.star _ goes c.in_default.not-Refused in
    let paid = last-paid (length c.args.pattern.now) (length name) at (c.loop-endless.tests + c.count_refused-refused.result)
    c.attempt-tried.result.tests before c.attempt-tried.ensures.most within in
    record {
      slides = record {
        decides = c.loop-endless.invariant.same ∙ same
            ∙ decided-from c.args.cased _ name at _ _ _ goes
            (λ ends. ahead-goes_on _ _ _ _ (rw ends at goes) c.requires.star) c.in_default.not-Refused;
        tests = omega (arith, c.loop-endless.invariant.made, passed, made, c.attempt-tried.ensures.tests);
        least = omega arith;
      };
      part = record {
        passed = omega (arith, c.attempt-tried.ensures.part.passed);
        shorter = c.attempt-tried.ensures.part.shorter;
        no_end = c.attempt-tried.ensures.part.no_end;
      };
      most = omega (arith, paid);
      star = λ star. (let on = star-paid (length c.args.pattern.now) (length name) at (c.loop-endless.tests + c.count_refused-refused.result)
          c.attempt-tried.result.tests c.attempt-tried.result.passed (length c.attempt-tried.result.after.now)
          before (c.attempt-tried.ensures.star star) (omega (arith, c.attempt-tried.ensures.part.passed)) in omega (arith, on));
    }
