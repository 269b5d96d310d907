-- Which command the arguments are.
use Rattle.std.specs.Prelude.{ℕ, Bool, true, false, cond, ◌||◌, List, Some, None, Ok, Err, string_bytes, codes, Option, Result, String, ◌==◌, slice_index}
use Rattle.std.specs.Str.{bytes_eq}
use Rattle.std.specs.declared.alloc.Global.{Global}
use Rattle.sheet.specs.declared.command.Command.{Command}
use Rattle.sheet.specs.declared.command.Command.TheVariants.{Help, File, Input}
use Rattle.sheet.specs.declared.command.Mistake.{Mistake}
use Rattle.sheet.specs.declared.command.Mistake.TheVariants.{Unknown, Extra}

abbrev pub is_help : List ℕ → Bool
is_help word = bytes_eq word (codes "--help") || bytes_eq word (codes "-h")

-- the word begins with a dash (45)
abbrev pub is_option : List ℕ → Bool
is_option word = slice_index word 0 == 45

-- the command of the only argument
abbrev pub word_command : String Global → Result Command Mistake
word_command word = cond (is_help (string_bytes word)) (Ok Help) (cond (is_option (string_bytes word)) (Err (Unknown word)) (Ok (File word)))

-- the command of the first argument, and of whether another follows it
abbrev pub command_of : Option (String Global) → Bool → Result Command Mistake
command_of first true = Err Extra
command_of None false = Ok Input
command_of (Some word) false = word_command word
