-- What each refusal is known by.
use Rattle.std.specs.Prelude.{ℕ, List, Some, None, Option, codes}
use Rattle.lexed_str.specs.declared.refusal.Refusal.{Refusal}
use Rattle.lexed_str.specs.declared.refusal.Refusal.TheVariants.{TooLong, NotUtf8, Kind, Columns, NoToken}
use Rattle.script.specs.Admission.{refusal_text as script_text}
use Rattle.script.specs.declared.refusal.Refusal.{Refusal as ScriptRefusal}
use Rattle.script.specs.declared.refusal.Refusal.TheVariants as script

-- the number of each refusal
abbrev pub number : Refusal → ℕ
number TooLong = 1
number (NotUtf8 at) = 2
number Kind = 4
number Columns = 10
number NoToken = 21

-- the value that goes with the number, if one does: the place of the first ill-formed byte
abbrev pub value : Refusal → Option ℕ
value TooLong = None
value (NotUtf8 at) = Some at
value Kind = None
value Columns = None
value NoToken = None

-- a script's refusal, with the number and the value that it has there
abbrev pub carried : ScriptRefusal → Refusal
carried script.TooLong = TooLong
carried (script.NotUtf8 at) = NotUtf8 at

-- what `{}` prints of a refusal
abbrev pub refusal_text : Refusal → List ℕ
refusal_text TooLong = script_text script.TooLong
refusal_text (NotUtf8 at) = script_text (script.NotUtf8 at)
refusal_text Kind = codes "a kind is past the last one"
refusal_text Columns = codes "the columns do not fit"
refusal_text NoToken = codes "there is no such token"
