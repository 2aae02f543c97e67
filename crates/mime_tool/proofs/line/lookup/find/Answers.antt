use Rattle.mime_base.specs.Database.{plain_database}
use Rattle.mime_tool.specs.Plain.{lookup_over}
use Rattle.mime_tool.specs.Types.{lookup_by}
use Rattle.mime_tool.proofs.AnswerLemmas.Kinds.{same_lookup}
use Rattle.mime_tool.proofs.line.lookup.find.Goals as goal

pub returns-in-Database : goal.returns-in-Database
returns-in-Database g c = λ stored has.
    let l = c.args.lookup in
    rw c.in-Database.is (same_lookup l.inode (lookup_over l.name_only l.output l.order (plain_database c.in-Database.database.now))
    c.args.file.now stored _ (c.find_in_database.ensures stored l.name_only l.output has))

pub returns-in-Indexed : goal.returns-in-Indexed
returns-in-Indexed g c = λ stored has.
    let l = c.args.lookup in
    rw c.in-Indexed.is (same_lookup l.inode (lookup_over l.name_only l.output l.order (plain_database c.in-Indexed.index.now))
    c.args.file.now stored _ (c.find_in_index.ensures stored l.name_only l.output has))

pub returns-in-Magic : goal.returns-in-Magic
returns-in-Magic g c = λ stored has.
    let l = c.args.lookup in
    rw c.in-Magic.is (same_lookup l.inode (lookup_over l.name_only l.output l.order (plain_database c.in-Magic.magic.now))
    c.args.file.now stored _ (c.find_by_magic.ensures stored l.name_only l.output has))

pub returns-in-Cache : goal.returns-in-Cache
returns-in-Cache g c = λ stored has.
    let l = c.args.lookup in
    rw c.in-Cache.is (same_lookup l.inode (lookup_by c.in-Cache.path.now l.name_only c.in-Cache.cost l.output l.order c.in-Cache.bytes.now)
    c.args.file.now stored _ (c.find_in_cache.ensures stored l.name_only l.output has))

pub returns-in-Opened : goal.returns-in-Opened
returns-in-Opened g c = λ stored has.
    let l = c.args.lookup in
    rw c.in-Opened.is (same_lookup l.inode (lookup_by c.in-Opened.path.now l.name_only c.in-Opened.cost l.output l.order c.in-Opened.cache.now)
    c.args.file.now stored _ (c.find_again.ensures stored l.name_only l.output has))
