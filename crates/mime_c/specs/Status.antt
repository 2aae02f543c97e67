-- The numbers of statuses; the header for C has the same ones, with MIMELOOK_ in capitals for status_.
use Rattle.std.specs.Prelude.{ℕ}

-- there is an answer
abbrev pub status_answered : ℕ
status_answered = 0

-- the name has more than 4,096 bytes
abbrev pub status_name_too_long : ℕ
status_name_too_long = 1

-- an allocation was refused
abbrev pub status_out_of_memory : ℕ
status_out_of_memory = 2

-- bytes that have to be a type name are not one
abbrev pub status_not_a_type : ℕ
status_not_a_type = 3

-- a buffer has no room for what goes into it
abbrev pub status_short_buffer : ℕ
status_short_buffer = 4

-- the cache ends inside its header
abbrev pub status_truncated : ℕ
status_truncated = 5

-- the cache has another version than 1.2
abbrev pub status_version : ℕ
status_version = 6

-- a cache has, or would have, more than 268,435,456 bytes
abbrev pub status_too_large : ℕ
status_too_large = 7

-- what is needed at an offset does not lie in the cache
abbrev pub status_out_of_range : ℕ
status_out_of_range = 8

-- no text ends within 256 bytes from an offset on
abbrev pub status_long_text : ℕ
status_long_text = 9

-- the budget has no record left, or too few value bytes
abbrev pub status_spent : ℕ
status_spent = 10

-- lines of magic, or characters of the suffix tree, lie deeper than is allowed
abbrev pub status_too_deep : ℕ
status_too_deep = 11

-- the number of a checking order is of none
abbrev pub status_unknown_order : ℕ
status_unknown_order = 12

-- a text of magic is refused
abbrev pub status_bad_magic : ℕ
status_bad_magic = 13

-- there is no database that is open
abbrev pub status_not_open : ℕ
status_not_open = 14
