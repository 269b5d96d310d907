-- The test of columns that are offered, and what it refuses.
use Rattle.std.specs.Prelude.{ℕ, zero, suc, ◌+◌, ◌-◌, Bool, true, cond, not, ◌&&◌, List, length, Some, None, Option, ◌==◌, nat_le, nat_lt}
use Rattle.script.specs.Admission.{refusal as script_refusal}
use Rattle.script.specs.declared.refusal.Refusal.{Refusal as ScriptRefusal}
use Rattle.script.specs.Places.{boundary}
use Rattle.lexed_str.specs.declared.error.LexError.{LexError}
use Rattle.lexed_str.specs.declared.refusal.Refusal.{Refusal}
use Rattle.lexed_str.specs.declared.refusal.Refusal.TheVariants.{Kind, Columns}
use Rattle.lexed_str.specs.Columns.{eof, last_kind, tokens, kind_at, start_at, token_at}
use Rattle.lexed_str.specs.Refusals.{carried}

-- the test holds of each number below n
abbrev pub all_below : ℕ → (ℕ → Bool) → Bool
all_below zero test = true
all_below (suc n) test = test n && all_below n test

-- no kind is past the last one
abbrev pub kinds_known : List ℕ → Bool
kinds_known ks = all_below (length ks) (λ i. nat_le (kind_at ks i) last_kind)

-- the columns have one length, and run from 0 to the script's length, where the end's entry stands
abbrev pub ends_fit : List ℕ → List ℕ → List ℕ → Bool
ends_fit bs ks ss =
    (length ss == length ks && kind_at ks (tokens ks) == eof) && (start_at ss 0 == 0 && start_at ss (tokens ks) == length bs)

-- the entry is no end's, and its text starts at a boundary and is not empty
abbrev pub token_fits : List ℕ → List ℕ → List ℕ → ℕ → Bool
token_fits bs ks ss i = not (kind_at ks i == eof) && (boundary bs (start_at ss i) && nat_lt (start_at ss i) (start_at ss (i + 1)))

-- the error names one of n tokens, and none before the one that the error before it names
abbrev pub error_fits : ℕ → List LexError → ℕ → Bool
error_fits n es k = nat_lt (token_at es k) n && nat_le (token_at es (k - 1)) (token_at es k)

-- the columns fit together, and fit the script
abbrev pub columns_fit : List ℕ → List ℕ → List ℕ → List LexError → Bool
columns_fit bs ks ss es = ends_fit bs ks ss && (all_below (tokens ks) (token_fits bs ks ss) && all_below (length es) (error_fits (tokens ks) es))

-- the columns are read
abbrev pub accepts : List ℕ → List ℕ → List ℕ → List LexError → Bool
accepts bs ks ss es = kinds_known ks && columns_fit bs ks ss es

-- why the columns of a script are not read
abbrev pub columns_refusal : List ℕ → List ℕ → List ℕ → List LexError → Option Refusal
columns_refusal bs ks ss es = cond (kinds_known ks) (cond (columns_fit bs ks ss es) None (Some Columns)) (Some Kind)

-- the script's refusal, or else the other one
abbrev pub after : Option ScriptRefusal → Option Refusal → Option Refusal
after None o = o
after (Some why) o = Some (carried why)

-- why columns of bytes are not read: the bytes are no script, or else the script's columns are not read
abbrev pub bytes_refusal : List ℕ → List ℕ → List ℕ → List LexError → Option Refusal
bytes_refusal bs ks ss es = after (script_refusal bs) (columns_refusal bs ks ss es)
