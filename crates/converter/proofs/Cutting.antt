-- What an edition cuts still ends at a boundary within the script, and has no more to say than bytes.
use Rattle.std.proofs.Common.{◌≡◌, ℕ, ◌+◌, ◌<◌, ◌≤◌, Bool, true, false, ◌&&◌, eqb, ltb, leb, ◌⊎◌, List, [], ◌∷◌, length, get_or, sym, refl, ap, ◌∙◌, inl, inr, ⊎_elim, arith, ltb-true, eqb-true, leb-true}
use Rattle.std.proofs.lemmas.List.{length-append}
use Rattle.std.proofs.lemmas.Bool.{and_parts, cond_both}
use Rattle.script.specs.Admission.{admits}
use Rattle.script.specs.Places.{boundary}
use Rattle.script.proofs.Bounds.{ascii_after}
use Rattle.raw.specs.Forms.{Form, form, guarded_prefix, c_string, raw_c_string, raw_lifetime, unknown_prefix, unknown_lifetime, end_of_file, ordinary}
use Rattle.raw.specs.Laws.{opens_with, spelled, keeps}
use Rattle.raw.specs.declared.kinds.RawToken.{RawToken}
use Rattle.raw.specs.declared.kinds.RawKind.{RawKind}
use Rattle.raw.specs.declared.kinds.RawKind.TheVariants.{Pound, Ident, Lifetime}
use Rattle.raw.specs.declared.kinds.EscapeError.{EscapeError}
use Rattle.converter.specs.declared.messages.Mode.{Mode}
use Rattle.converter.specs.declared.complaint.Complaint.{Complaint}
use Rattle.converter.specs.declared.complaint.Complaint.TheVariants.{Silent, Says, First, Every, Prefix}
use Rattle.converter.specs.Messages.{message}
use Rattle.converter.specs.Codes.{messages, first_message, settled, said, complaint_of, codes_of}
use Rattle.converter.specs.Cuts.{token, cut_as, cut}
use Rattle.converter.proofs.Asking.{message_few}

-- a token that may stand at the place, with as many faults at most as it has bytes, or silent
pub record Stands (bs : List ℕ) (p : ℕ) (t : RawToken) (faults : ℕ) : Type 0 where
  pub some : 0 < t.len
  pub within : p + t.len ≤ length bs
  pub ends : boundary bs (p + t.len) ≡ true
  pub quiet : (faults ≤ t.len) ⊎ (complaint_of t.kind ≡ Silent)

module _ (bs : List ℕ) (p : ℕ) (a : admits bs ≡ true) where
  one_byte : (k : RawKind) (n : ℕ) → p < length bs → get_or bs p 0 < 128 → complaint_of k ≡ Silent → Stands bs p (token k 1) n
  one_byte k n l low silent = record { some = omega arith; within = omega arith; ends = ascii_after bs p a l low; quiet = inr silent }

  two_bytes : (k : RawKind) (n : ℕ) → p + 1 < length bs → get_or bs (p + 1) 0 < 128 → complaint_of k ≡ Silent → Stands bs p (token k 2) n
  two_bytes k n l low silent =
      let e : p + 1 + 1 ≡ p + 2 = omega arith in
      record { some = omega arith; within = omega arith; ends = ap (boundary bs) (sym e) ∙ ascii_after bs (p + 1) a l low; quiet = inr silent }

  opened_with : (n x y : ℕ) → y < 128 → opens_with bs p n x y ≡ true → (2 ≤ n) × (get_or bs (p + 1) 0 < 128)
  opened_with n x y low e =
      let parts = and_parts (leb 2 n) (eqb (get_or bs p 0) x && eqb (get_or bs (p + 1) 0) y) e in
      let bytes = and_parts (eqb (get_or bs p 0) x) (eqb (get_or bs (p + 1) 0) y) parts.1 in
      (leb-true 2 n parts.0, omega (arith, eqb-true (get_or bs (p + 1) 0) y bytes.1))

  renamed : (t : RawToken) (k : RawKind) (n : ℕ) → complaint_of k ≡ Silent → Stands bs p t n → Stands bs p (token k t.len) n
  renamed t k n silent h = record { some = h.some; within = h.within; ends = h.ends; quiet = inr silent }

  cut_as_lem : (edition : ℕ) (t : RawToken) (n : ℕ) (f : Form) → Stands bs p t n → spelled bs p t.len f ≡ true → Stands bs p (cut_as edition t f) n
  cut_as_lem edition t n guarded_prefix h s =
      let parts = and_parts (eqb t.len 2) (ltb (get_or bs p 0) 128 && ltb (get_or bs (p + 1) 0) 128) s in
      let low = ltb-true (get_or bs p 0) 128 (and_parts (ltb (get_or bs p 0) 128) (ltb (get_or bs (p + 1) 0) 128) parts.1).0 in
      cond_both (ltb edition 3) (token Pound 1) t (λ x. Stands bs p x n) (λ e. one_byte Pound n (omega (arith, h.within, h.some)) low refl) (λ e. h)
  cut_as_lem edition t n c_string h s =
      let low : get_or bs p 0 < 128 = omega (arith, eqb-true (get_or bs p 0) 99 s) in
      cond_both (ltb edition 2) (token Ident 1) t (λ x. Stands bs p x n) (λ e. one_byte Ident n (omega (arith, h.within, h.some)) low refl) (λ e. h)
  cut_as_lem edition t n raw_c_string h s =
      let o = opened_with t.len 99 114 (omega arith) s in
      cond_both (ltb edition 2) (token Ident 2) t (λ x. Stands bs p x n) (λ e. two_bytes Ident n (omega (arith, h.within, o.0)) o.1 refl) (λ e. h)
  cut_as_lem edition t n raw_lifetime h s =
      let o = opened_with t.len 39 114 (omega arith) s in
      cond_both (ltb edition 2) (token (Lifetime false) 2) t (λ x. Stands bs p x n) (λ e. two_bytes (Lifetime false) n (omega (arith, h.within, o.0)) o.1 refl) (λ e. h)
  cut_as_lem edition t n unknown_prefix h s = cond_both (ltb edition 2) (token Ident t.len) t (λ x. Stands bs p x n) (λ e. renamed t Ident n refl h) (λ e. h)
  cut_as_lem edition t n unknown_lifetime h s = cond_both (ltb edition 2) (token (Lifetime false) t.len) t (λ x. Stands bs p x n) (λ e. renamed t (Lifetime false) n refl h) (λ e. h)
  cut_as_lem edition t n end_of_file h s = h
  cut_as_lem edition t n ordinary h s = h

  kept : (t : RawToken) (n : ℕ) → keeps bs p t n ≡ true → Stands bs p t n × (spelled bs p t.len (form t.kind) ≡ true)
  kept t n e =
      let x = and_parts (ltb 0 t.len && (leb (p + t.len) (length bs) && boundary bs (p + t.len))) (spelled bs p t.len (form t.kind) && leb n t.len) e in
      let y = and_parts (ltb 0 t.len) (leb (p + t.len) (length bs) && boundary bs (p + t.len)) x.0 in
      let z = and_parts (leb (p + t.len) (length bs)) (boundary bs (p + t.len)) y.1 in
      let w = and_parts (spelled bs p t.len (form t.kind)) (leb n t.len) x.1 in
      (record { some = ltb-true 0 t.len y.0; within = leb-true (p + t.len) (length bs) z.0; ends = z.1; quiet = inl (leb-true n t.len w.1) }, w.0)

  -- what a law-abiding source gives may be cut by any edition
  pub cut_stands : (edition : ℕ) (t : RawToken) (n : ℕ) → keeps bs p t n ≡ true → Stands bs p (cut edition t) n
  cut_stands edition t n e = let k = kept t n e in cut_as_lem edition t n (form t.kind) k.0 k.1

  -- the faults of the token itself fit the script
  pub faults_within : (t : RawToken) (n : ℕ) → keeps bs p t n ≡ true → p + n ≤ length bs
  faults_within t n e =
      let k = (kept t n e).0 in
      let w = (and_parts (ltb 0 t.len && (leb (p + t.len) (length bs) && boundary bs (p + t.len))) (spelled bs p t.len (form t.kind) && leb n t.len) e).1 in
      omega (arith, k.within, leb-true n t.len (and_parts (spelled bs p t.len (form t.kind)) (leb n t.len) w).1)

messages_few : (m : Mode) (es : List EscapeError) → length (messages m es) ≤ length es
messages_few m [] = omega arith
messages_few m (e ∷ es) = omega (arith, length-append (message m e) (messages m es), message_few m e, messages_few m es)

first_few : (m : Mode) (es : List EscapeError) → length (first_message m es) ≤ 1
first_few m [] = omega arith
first_few m (e ∷ es) = message_few m e

said_few : (es : List EscapeError) (c : Complaint) (n : ℕ) → 0 < n → length es ≤ n → length (said es c) ≤ n
said_few es Silent n some few = omega arith
said_few es (Says code) n some few = omega arith
said_few es (First m) n some few = omega (arith, first_few m es)
said_few es (Every m) n some few = omega (arith, messages_few m es)
said_few es Prefix n some few = omega arith

-- what is said of a token fits its bytes
pub codes_few : (bs : List ℕ) (p : ℕ) (t : RawToken) (hint : Bool) (text : List ℕ) (es : List EscapeError) → Stands bs p t (length es) → length (codes_of hint text t.kind es) ≤ t.len
codes_few bs p t hint text es h =
    ⊎_elim (λ few. said_few es (settled hint text (complaint_of t.kind)) t.len h.some few)
    (λ silent. omega (arith, ap (λ c. length (said es (settled hint text c))) silent)) h.quiet
