-- What the usual spellings of `list`, `check`, `isa` and `icon` mean.
use Rattle.std.proofs.Common.{◌≡◌, false, [], ◌∷◌, Some, None, append-nil, refl, codes}
use Rattle.clap.specs.Walk.{Text, Walk, finished, idle, used}
use Rattle.clap.specs.Simple.{filled, with_index}
use Rattle.clap.proofs.OnLiterals.{clap_on_literals}
use Rattle.mime_request.specs.CommandLine.{kind_rule}
use Rattle.mime_request.specs.Request.{asks, check, check_meaning, icon, icon_meaning, is_a, is_a_meaning, list, list_meaning, meaning_of}
use Rattle.mime_request.specs.Spelling.{Named, by_cache, by_directories, by_nothing, check_words, icon_words, is_a_words, is_option, list_words}
use Rattle.mime_request.specs.Spelling.{source_of, source_word, source_words}
use Rattle.mime_request.proofs.WalkLemmas.CommandWords.{meaning_of-met}
use Rattle.mime_request.proofs.WalkLemmas.PlainWords.{IsPlainWord, plain_word}
use Rattle.mime_request.proofs.CommandLemmas.Shapes.{cache_met, check_over, check_shape, icon_over, icon_shape, is_a_over, is_a_shape}
use Rattle.mime_request.proofs.CommandLemmas.Shapes.{list_over, list_shape}
use Rattle.mime_request.proofs.WalkLemmas.SourceWords.{after_source, over_source, source_used}
use Rattle.mime_request.proofs.WalkLemmas.ValueWords.{positional_takes}
use Rattle.mime_request.proofs.WalkLemmas.Walks.{Steps, at_position, end_fault, ends, goes}

-- after TYPE, and after BASE
abbrev after_kind : Named → Text → Walk
after_kind by kind = at_position 2 (source_used by) (Some (codes "type", kind ∷ [])) idle

-- where the words of `isa` end
abbrev after_base : Named → Text → Text → Walk
after_base by kind base =
    at_position 3 (used (with_index 1 (filled kind_rule)) (kind ∷ []) (source_used by)) (Some (codes "base", base ∷ [])) idle

-- the first word after the options of `icon` is TYPE
kind_of_icon : (by : Named) (kind : Text) → IsPlainWord kind → Steps icon_shape [] (after_source by) kind (after_kind by kind)
kind_of_icon (by_cache cache) kind h = positional_takes icon_shape _ 1 _ _ kind refl refl h
kind_of_icon (by_directories dirs) kind h = positional_takes icon_shape _ 1 _ _ kind refl refl h
kind_of_icon by_nothing kind h = positional_takes icon_shape _ 1 [] None kind refl refl h

-- so is that of `isa`
kind_of_is_a : (by : Named) (kind : Text) → IsPlainWord kind → Steps is_a_shape [] (after_source by) kind (after_kind by kind)
kind_of_is_a (by_cache cache) kind h = positional_takes is_a_shape _ 1 _ _ kind refl refl h
kind_of_is_a (by_directories dirs) kind h = positional_takes is_a_shape _ 1 _ _ kind refl refl h
kind_of_is_a by_nothing kind h = positional_takes is_a_shape _ 1 [] None kind refl refl h

-- the second is BASE
base_of_is_a : (by : Named) (kind base : Text) → IsPlainWord base
    → Steps is_a_shape [] (after_kind by kind) base (after_base by kind base)
base_of_is_a (by_cache cache) kind base h = positional_takes is_a_shape _ 2 _ _ base refl refl h
base_of_is_a (by_directories dirs) kind base h = positional_takes is_a_shape _ 2 _ _ base refl refl h
base_of_is_a by_nothing kind base h = positional_takes is_a_shape _ 2 _ _ base refl refl h

-- after the last word nothing is missing
list_fits : (by : Named) → end_fault list_shape false (after_source by).held ≡ []
unfolding clap_on_literals
list_fits (by_cache cache) = refl
list_fits (by_directories dirs) = refl
list_fits by_nothing = refl

-- nothing is missing at the end of the words of `check`
check_fits : (by : Named) → end_fault check_shape false (after_source by).held ≡ []
unfolding clap_on_literals
check_fits (by_cache cache) = refl
check_fits (by_directories dirs) = refl
check_fits by_nothing = refl

-- nothing is missing at the end of the words of `icon`
icon_fits : (by : Named) (kind : Text) → end_fault icon_shape false (after_kind by kind).held ≡ []
unfolding clap_on_literals
icon_fits (by_cache cache) kind = refl
icon_fits (by_directories dirs) kind = refl
icon_fits by_nothing kind = refl

-- nothing is missing at the end of the words of `isa`
is_a_fits : (by : Named) (kind base : Text) → end_fault is_a_shape false (after_base by kind base).held ≡ []
unfolding clap_on_literals
is_a_fits (by_cache cache) kind base = refl
is_a_fits (by_directories dirs) kind base = refl
is_a_fits by_nothing kind base = refl

-- what the rows mean
list_means : (by : Named) → list_meaning (finished list_shape.rules (after_source by).held) ≡ asks (list (source_of by))
unfolding clap_on_literals
list_means (by_cache cache) = refl
list_means (by_directories dirs) = refl
list_means by_nothing = refl

-- what is held at the end of the words of `check` asks for a check
check_means : (by : Named) → check_meaning (finished check_shape.rules (after_source by).held) ≡ asks (check (source_of by))
unfolding clap_on_literals
check_means (by_cache cache) = refl
check_means (by_directories dirs) = refl
check_means by_nothing = refl

-- what is held at the end of the words of `icon` asks for its icons
icon_means : (by : Named) (kind : Text)
    → icon_meaning (finished icon_shape.rules (after_kind by kind).held) ≡ asks (icon (source_of by) kind)
unfolding clap_on_literals
icon_means (by_cache cache) kind = refl
icon_means (by_directories dirs) kind = refl
icon_means by_nothing kind = refl

-- what is held at the end of the words of `isa` asks whether one type is the other
is_a_means : (by : Named) (kind base : Text)
    → is_a_meaning (finished is_a_shape.rules (after_base by kind base).held) ≡ asks (is_a (source_of by) kind base)
unfolding clap_on_literals
is_a_means (by_cache cache) kind base = refl
is_a_means (by_directories dirs) kind base = refl
is_a_means by_nothing kind base = refl

-- what `list [-c CACHE | -d DIRS]` means
pub meaning_of-usual_list : (by : Named) → is_option (source_word by) ≡ false → meaning_of (list_words by) ≡ asks (list (source_of by))
meaning_of-usual_list by h =
    rw (append-nil (source_words by)) at (meaning_of-met (cache_met list_over) _ (after_source by) _
    (over_source list_over by [] _ h (ends (after_source by))) (list_fits by) (list_means by))

-- what `check [-c CACHE | -d DIRS]` means
pub meaning_of-usual_check : (by : Named) → is_option (source_word by) ≡ false
    → meaning_of (check_words by) ≡ asks (check (source_of by))
meaning_of-usual_check by h =
    rw (append-nil (source_words by)) at (meaning_of-met (cache_met check_over) _ (after_source by) _
    (over_source check_over by [] _ h (ends (after_source by))) (check_fits by) (check_means by))

-- what `icon [-c CACHE | -d DIRS] TYPE` means
pub meaning_of-usual_icon : (by : Named) (kind : Text) → is_option (source_word by) ≡ false → is_option kind ≡ false
    → meaning_of (icon_words by kind) ≡ asks (icon (source_of by) kind)
meaning_of-usual_icon by kind h k = meaning_of-met (cache_met icon_over) _ (after_kind by kind) _
    (over_source icon_over by (kind ∷ []) _ h (goes _ _ _ _ _ (kind_of_icon by kind (plain_word kind k))
    (ends (after_kind by kind)))) (icon_fits by kind) (icon_means by kind)

-- what `isa [-c CACHE | -d DIRS] TYPE BASE` means
pub meaning_of-usual_is_a : (by : Named) (kind base : Text) → is_option (source_word by) ≡ false → is_option kind ≡ false
    → is_option base ≡ false → meaning_of (is_a_words by kind base) ≡ asks (is_a (source_of by) kind base)
meaning_of-usual_is_a by kind base h k b = meaning_of-met (cache_met is_a_over) _ (after_base by kind base) _
    (over_source is_a_over by (kind ∷ base ∷ []) _ h (goes _ _ _ _ _ (kind_of_is_a by kind (plain_word kind k))
    (goes _ _ _ _ _ (base_of_is_a by kind base (plain_word base b)) (ends (after_base by kind base)))))
    (is_a_fits by kind base) (is_a_means by kind base)
