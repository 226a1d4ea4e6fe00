-- A name line: refused by its text, or one more name is held.
use mathlib.Core.Bool.{Bool, true, false}
use mathlib.Core.List.{List, [], ◌∷◌}
use mathlib.Core.Path.{◌≡◌, refl, sym, ap, subst, ◌∙◌}
use Prim.Native.Nat.{ℕ, ◌+◌, ◌-◌, ◌*◌, ◌<◌, ◌≤◌}
use native.Mathlib.Omega.{arith}
use lib.ListN.{length, take, drop, length-drop, set}
use lib.Seq.{take_all}
use Rattle.text.specs.Utf8.{characters}
use Rattle.text.proofs.Laws.{characters_le}
use Rattle.work.specs.Layout.{NAMES}
use Rattle.cells.specs.Words.{pick}
use Rattle.cells.specs.Stands.{Rows}
use Rattle.format.specs.Refusal as Refused
use Rattle.format.specs.Frame as Frame
use Rattle.format.specs.Frame.{Frame, a_name, may_stand, kind_byte, frame_kind, frame, one, and_then, rest, whole, frame_of}
use Rattle.format.specs.References.{texts_of, name_refs, type_refs, node_refs, keys_of}
use Rattle.format.specs.SoFar.{SoFar, add, frames}
use Rattle.format.specs.Conditions.{any_of, all_below, again, broken, given, same_text, refers_earlier, refers_badly, conditions, first_of}
use Rattle.format.specs.File.{value_text}
use Rattle.work.specs.declared.Counters.{Counters}
use Rattle.reading.specs.Held.{Held}
use Rattle.reading.specs.Prints.{print_of, Printed}
use Rattle.reading.specs.Promises.{with_name, LineAt, Comes, NameLine, GivenBefore, TakesName}
use Rattle.reading.proofs.Prints.{no_step}
use Rattle.reading.proofs.Lines.{name_held}
use Rattle.reading.proofs.Order.{first_broken, first_given, first_none}
use Rattle.reading.proofs.Stepping.{no_value, the_value, refuses, goes_on, begun, names_room}
use Rattle.format.specs.Frame.{Edition}
use lib.Dec.{eqb}
use Rattle.std.proofs.lemmas.Bool.Decides.{Decides-eqb}
use Rattle.std.specs.Cmp.Lexicographic.{pointwise}
use Rattle.std.proofs.lemmas.Slice.Eq.{slice_eq-Decides}
use Rattle.reading.proofs.Texts.{value_told}
use Rattle.std.specs.Option.{ok_or}
use Rattle.std.specs.Prelude.{Err, None, Ok, Option, Result, Some}
use Rattle.reading.specs.declared.Refusal.{Refusal}

-- Any text is a name's frame.
pub name_frame : (ed : Edition) (so : SoFar) (s : List ℕ) (fr : Frame) → Comes ed so Frame.name s fr → a_name (drop 1 s) ≡ fr
unfolding frame_of frame one and_then rest whole
name_frame ed so s fr c = cc c.is

any_one : {A : Type 0} (test : A → Bool) (a : A) (b : Bool) → test a ≡ b → any_of test (a ∷ []) ≡ b
unfolding any_of
any_one test a true e = rw (e, any_of)
any_one test a false e = rw (e, any_of)

broken_text_lem : (t : List ℕ) → characters t ≡ None → broken t ≡ true
unfolding broken
broken_text_lem t e = rw (e, broken)

whole_text : (t : List ℕ) (n : ℕ) → characters t ≡ Some n → broken t ≡ false
unfolding broken
whole_text t n e = rw (e, broken)

-- What the answer over the line's text says.
module _ (s : List ℕ) (r : Option ℕ) (is : r ≡ characters (take (length s - 1) (drop 1 s))) (e : Refusal) where
  over_text : characters (drop 1 s) ≡ r
  over_text = ap characters (sym (take_all (length s - 1) (drop 1 s) (omega (arith, length-drop 1 s)))) ∙ sym is

  pub text_none : (x : Refusal) → ◌≡◌ {A = Result ℕ Refusal} (Err x) (ok_or r e) → (x ≡ e) × (characters (drop 1 s) ≡ None)
  text_none x q = let n = no_value r e x q in (n.0, over_text ∙ n.1)

  pub text_some : (n : ℕ) → ◌≡◌ {A = Result ℕ Refusal} (Ok n) (ok_or r e) → characters (drop 1 s) ≡ Some n
  text_some n q = over_text ∙ the_value r e n q

-- the print of the line's text, written at the name's number
pub print_set : (s prints : List ℕ) (i n r : ℕ) → i ≡ n → r ≡ print_of (take (length s - 1) (drop 1 s))
    → set prints i r ≡ set prints n (print_of (drop 1 s))
print_set s prints i n r p e = rw (p, e, take_all (length s - 1) (drop 1 s) (omega (arith, length-drop 1 s))) refl

pub few_characters : (s : List ℕ) (n : ℕ) → characters (drop 1 s) ≡ Some n → 0 < length s → length s ≤ 512 → n < 512
few_characters s n e l h = omega (arith, characters_le (drop 1 s) n e, length-drop 1 s)

-- What the comparison with the text says, over the line's text.
module _ (s : List ℕ) (n : ℕ) (v : Option ℕ) (t : List ℕ) (is : t ≡ 0x76 ∷ 0x61 ∷ 0x6c ∷ 0x75 ∷ 0x65 ∷ []) (r : Bool)
    (e : r ≡ pointwise eqb (take (length s - 1) (drop 1 s)) t) where
  told_value : r ≡ same_text value_text (drop 1 s)
  told_value = value_told (drop 1 s) r (slice_eq-Decides Decides-eqb (drop 1 s) _ r
      (e ∙ ap (λ l. pointwise eqb l t) (take_all (length s - 1) (drop 1 s) (omega (arith, length-drop 1 s))) ∙ ap (pointwise eqb (drop 1 s)) is))

  pub value_true : r ≡ true → Some n ≡ pick (same_text value_text (drop 1 s)) (Some n) v
  value_true q = rw (← told_value, q)

  pub value_false : r ≡ false → v ≡ pick (same_text value_text (drop 1 s)) (Some n) v
  value_false q = rw (← told_value, q)

module _ (ed : Edition) (f : List ℕ) (at : ℕ) (s w prints : List ℕ) (c : Counters) where
  -- what holds of the name's frame holds of the line's
  as_name : (so : SoFar) (fr : Frame) (o : Option Refused.Refusal) → Comes ed so Frame.name s fr
      → first_of conditions so (frames (a_name (drop 1 s))) ≡ o → first_of conditions so (frames fr) ≡ o
  as_name so fr o k e = subst (λ x. first_of conditions so (frames x) ≡ o) (name_frame ed so s fr k) e

  pub name_broken : characters (drop 1 s) ≡ None → TakesName ed f at s w prints c w prints (Err Refusal.BrokenText)
  unfolding frame_kind texts_of
  name_broken e = record {
    is = λ next T previous so fr h p l k.
        refuses ed f next w (Some Frame.name) (add so fr) Refusal.BrokenText _
        (as_name so fr _ k (first_broken so (a_name (drop 1 s)) k.placed k.room k.turn
        (any_one broken (drop 1 s) true (broken_text_lem (drop 1 s) e))));
    printed = λ d e. no_step e;
  }

  module _ (chars : ℕ) (text : characters (drop 1 s) ≡ Some chars) where
    read : any_of broken (texts_of (a_name (drop 1 s))) ≡ false
    unfolding texts_of
    read = any_one broken (drop 1 s) false (whole_text (drop 1 s) chars text)

    as_line : {so : SoFar} {fr : Frame} {next : ℕ} → LineAt f at next s → Comes ed so Frame.name s fr → NameLine f at s (drop 1 s)
    unfolding kind_byte
    as_line l k = record { line = l.is; is = k.first }

    given_is : {so : SoFar} {fr : Frame} {next : ℕ} {T : Rows} {previous : Option Frame.Kind} (r : Bool) → GivenBefore f at s w prints c.names r
        → Held ed f at w T c previous so → Printed prints so.names → LineAt f at next s → Comes ed so Frame.name s fr
        → any_of (given so.names) (texts_of (a_name (drop 1 s))) ≡ r
    unfolding texts_of kind_byte
    given_is {so} r g h p l k = any_one (given so.names) (drop 1 s) r (sym (g.is c.value so.names (drop 1 s) h.names p (as_line l k)))

    pub name_given : GivenBefore f at s w prints c.names true → TakesName ed f at s w prints c w prints (Err Refusal.NameGivenBefore)
    unfolding frame_kind
    name_given g = record {
      is = λ next T previous so fr h p l k. refuses ed f next w (Some Frame.name) (add so fr) Refusal.NameGivenBefore _
          (as_name so fr _ k (first_given so (a_name (drop 1 s)) k.placed k.room k.turn read (given_is true g h p l k)));
      printed = λ d e. no_step e;
    }

    pub name_taken : GivenBefore f at s w prints c.names false
        → TakesName ed f at s w prints c (set w (NAMES + c.names) (at * 512 + chars)) (set prints c.names (print_of (drop 1 s)))
        (Ok (with_name c (pick (same_text value_text (drop 1 s)) (Some c.names) c.value)))
    unfolding frame_kind texts_of keys_of again refers_badly refers_earlier all_below name_refs type_refs node_refs may_stand
    name_taken g = record {
      printed = λ d e. refl;
      is = λ next T previous so fr h p l k.
          let b = begun so.previous Frame.name k.placed refl in
          let n = g.is c.value so.names (drop 1 s) h.names p (as_line l k) in
          let few = few_characters s chars text l.some l.most in
          goes_on ed f next _ (Some Frame.name) (add so fr) _ T _
          (as_name so fr None k (first_none so (a_name (drop 1 s)) k.placed k.room k.turn read (given_is false g h p l k) refl refl))
          (subst (λ x. Held ed f next (set w (NAMES + c.names) (at * 512 + chars)) T
          (with_name c (pick (same_text value_text (drop 1 s)) (Some c.names) c.value)) (Some Frame.name) (add so x)) (name_frame ed so s fr k)
          (name_held ed h next (omega (arith, l.on)) l.within (drop 1 s) chars b.0 k.placed b.1 (names_room so k.room)
          (l.is ∙ ap Some k.first) text few (sym n)));
    }

    pub name_adds : GivenBefore f at s w prints c.names false → (value : Option ℕ) → value ≡ pick (same_text value_text (drop 1 s)) (Some c.names) c.value
        → (w' : List ℕ) → w' ≡ set w (NAMES + c.names) (at * 512 + chars) → (prints' : List ℕ) → prints' ≡ set prints c.names (print_of (drop 1 s))
        → TakesName ed f at s w prints c w' prints' (Ok (with_name c value))
    name_adds g value v w' e prints' q = rw (e, v, q) (name_taken g)
