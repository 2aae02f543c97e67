-- How each command over a cache reads `-c CACHE` or `-d DIRS`.
use Rattle.std.proofs.Common.{◌≡◌, false, List, [], ◌∷◌, ◌++◌, refl, codes}
use Rattle.clap.specs.Walk.{Row, Text, Walk, nothing_held, used, walk_from}
use Rattle.clap.specs.Simple.{filled, with_index}
use Rattle.clap.proofs.OnLiterals.{clap_on_literals}
use Rattle.mime_request.specs.CommandLine.{cache_rule, directories_rule}
use Rattle.mime_request.specs.Spelling.{Named, by_cache, by_directories, by_nothing, is_option, source_word, source_words}
use Rattle.mime_request.proofs.WalkLemmas.PlainWords.{IsPlainWord, plain_word}
use Rattle.mime_request.proofs.CommandLemmas.Shapes.{OverCache, cache_met, check_over, explain_over, icon_over, is_a_over}
use Rattle.mime_request.proofs.CommandLemmas.Shapes.{list_over, shape_of, type_over}
use Rattle.mime_request.proofs.WalkLemmas.ValueWords.{value_taken}
use Rattle.mime_request.proofs.WalkLemmas.Walks.{Steps, Leads, after_value, before_value, goes}

-- after CACHE or DIRS
abbrev pub after_source : Named → Walk
after_source (by_cache cache) = after_value (codes "cache") [] cache
after_source (by_directories dirs) = after_value (codes "dirs") [] dirs
after_source by_nothing = walk_from nothing_held

-- the rows after them
abbrev pub source_used : Named → List Row
source_used (by_cache cache) = used (with_index 1 (filled cache_rule)) (cache ∷ []) []
source_used (by_directories dirs) = used (with_index 1 (filled directories_rule)) (dirs ∷ []) []
source_used by_nothing = []

-- `-c` waits for CACHE
option_c : (m : OverCache)
    → Steps (shape_of (cache_met m)) [] (walk_from nothing_held) (codes "-c") (before_value (codes "cache") [])
unfolding clap_on_literals
option_c list_over = record { no_fault = refl; moves = refl }
option_c check_over = record { no_fault = refl; moves = refl }
option_c explain_over = record { no_fault = refl; moves = refl }
option_c is_a_over = record { no_fault = refl; moves = refl }
option_c icon_over = record { no_fault = refl; moves = refl }
option_c type_over = record { no_fault = refl; moves = refl }

-- the word after it is CACHE
cache_value : (m : OverCache) (cache : Text) → IsPlainWord cache
    → Steps (shape_of (cache_met m)) [] (before_value (codes "cache") []) cache (after_source (by_cache cache))
cache_value list_over cache h = value_taken _ _ _ [] cache refl refl h
cache_value check_over cache h = value_taken _ _ _ [] cache refl refl h
cache_value explain_over cache h = value_taken _ _ _ [] cache refl refl h
cache_value is_a_over cache h = value_taken _ _ _ [] cache refl refl h
cache_value icon_over cache h = value_taken _ _ _ [] cache refl refl h
cache_value type_over cache h = value_taken _ _ _ [] cache refl refl h

-- `-d` waits for DIRS
option_d : (m : OverCache)
    → Steps (shape_of (cache_met m)) [] (walk_from nothing_held) (codes "-d") (before_value (codes "dirs") [])
unfolding clap_on_literals
option_d list_over = record { no_fault = refl; moves = refl }
option_d check_over = record { no_fault = refl; moves = refl }
option_d explain_over = record { no_fault = refl; moves = refl }
option_d is_a_over = record { no_fault = refl; moves = refl }
option_d icon_over = record { no_fault = refl; moves = refl }
option_d type_over = record { no_fault = refl; moves = refl }

-- the word after it is DIRS
directories_value : (m : OverCache) (dirs : Text) → IsPlainWord dirs
    → Steps (shape_of (cache_met m)) [] (before_value (codes "dirs") []) dirs (after_source (by_directories dirs))
directories_value list_over dirs h = value_taken _ _ _ [] dirs refl refl h
directories_value check_over dirs h = value_taken _ _ _ [] dirs refl refl h
directories_value explain_over dirs h = value_taken _ _ _ [] dirs refl refl h
directories_value is_a_over dirs h = value_taken _ _ _ [] dirs refl refl h
directories_value icon_over dirs h = value_taken _ _ _ [] dirs refl refl h
directories_value type_over dirs h = value_taken _ _ _ [] dirs refl refl h

-- over `-c CACHE`, `-d DIRS`, or neither
pub over_source : (m : OverCache) (by : Named) (words : List Text) (end : Walk) → is_option (source_word by) ≡ false
    → Leads (shape_of (cache_met m)) [] (after_source by) words end
    → Leads (shape_of (cache_met m)) [] (walk_from nothing_held) (source_words by ++ words) end
over_source m (by_cache cache) words end h rest =
    goes _ _ _ _ _ (option_c m) (goes _ _ _ _ _ (cache_value m cache (plain_word cache h)) rest)
over_source m (by_directories dirs) words end h rest =
    goes _ _ _ _ _ (option_d m) (goes _ _ _ _ _ (directories_value m dirs (plain_word dirs h)) rest)
over_source m by_nothing words end h rest = rest
