-- One text after another where what follows them may be anything: only what stands before the place counts, so the laws are those of a
-- writer (writer/proofs/Writing.antt) without the rest of the slice.
use mathlib.Core.List.{List, [], ◌++◌, append_assoc, append-nil}
use mathlib.Core.Path.{◌≡◌, refl, sym, ap, ◌∙◌}
use Prim.Native.Nat.{ℕ, ◌+◌, ◌-◌, ◌≤◌, ◌<◌}
use native.Mathlib.Omega.{arith}
use lib.ListN.{length, take, drop, length-append, length-take, length-drop, take-append-drop, drop_of_length-le}
use lib.Seq.{length-take-le, take_all, take_at}
use Rattle.writer.specs.Writes.{placed, Writes}
use Rattle.writer.proofs.Writing.{writes_none, shifted, ends_there, ends_over}
use Rattle.driver.specs.Turns.{Continues}
use Rattle.std.specs.Prelude.{None, Option, Some}

pub continues : {out : List ℕ} {at : ℕ} {a out' : List ℕ} {r : Option ℕ} → Writes out at a out' r → Continues out at a out' r
unfolding placed
continues {out} {at} {a} {out'} {r} f = record {
  fits = λ h.
      let g = f.fits h in
      let front : length (take at out ++ a) ≡ at + length a = simp (length-append, length-take) (omega arith) in
      (g.0, ap (take (at + length a)) g.1 ∙ take_at (take at out ++ a) (drop (at + length a) out) (at + length a) front);
  over = f.over;
  long = f.long;
}

pub continues_none : (out : List ℕ) (at : ℕ) → at ≤ length out → Continues out at [] out (Some at)
continues_none out at l = continues (writes_none out at l)

pub continues_as : {out : List ℕ} {at : ℕ} {a b out' : List ℕ} {r : Option ℕ} → a ≡ b → Continues out at a out' r → Continues out at b out' r
continues_as e f = rw (← e) f

-- From the start of a slice only its length counts.
pub continues_start : {out mid a out' : List ℕ} {r : Option ℕ} → length mid ≡ length out → Continues mid 0 a out' r → Continues out 0 a out' r
continues_start e f = record { fits = λ h. f.fits (omega (arith, e)); over = λ h. f.over (omega (arith, e)); long = f.long ∙ e }

module _ {out : List ℕ} {at : ℕ} {a out' : List ℕ} {r : Option ℕ} (f : Continues out at a out' r) where
  pub continues_to : {n : ℕ} → r ≡ Some n → (n ≡ at + length a) × (n ≤ length out)
  continues_to e = ends_there (λ h. (f.fits h).0) f.over e

  pub continues_over : r ≡ None → length out < at + length a
  continues_over e = ends_over (λ h. (f.fits h).0) f.over e

  pub continues_then : {n : ℕ} → r ≡ Some n → {b out'' : List ℕ} {r' : Option ℕ} → Continues out' n b out'' r' → Continues out at (a ++ b) out'' r'
  continues_then {n} e {b} {out''} {r'} g =
      let to = continues_to e in
      let sum : at + length (a ++ b) ≡ n + length b = omega (arith, to.0, length-append a b) in
      record {
        fits = λ h.
            let x = (f.fits (omega (arith, to.0, to.1))).1 in
            let y = g.fits (omega (arith, f.long)) in
            let front : take n out' ≡ take at out ++ a = ap (λ i. take i out') to.0 ∙ x in
            (y.0 ∙ ap Some (sym sum), ap (λ i. take i out'') sum ∙ y.1 ∙ ap (λ l. l ++ b) front ∙ append_assoc (take at out) a b);
        over = λ h. g.over (omega (arith, f.long));
        long = g.long ∙ f.long;
      }

  -- What follows a page that is full changes nothing of it.
  pub after_full : r ≡ None → (b out'' : List ℕ) → length out'' ≡ length out → Continues out at (a ++ b) out'' None
  after_full e b out'' long = record {
    fits = λ h. absurd (omega (arith, continues_over e, length-append a b));
    over = λ h. refl;
    long = long;
  }

pub whole_there : {out a out' : List ℕ} {r : Option ℕ} {n : ℕ} → Continues out 0 a out' r → r ≡ Some n → (n ≡ length a) × (n ≤ length out) × (take n out' ≡ a)
whole_there {out} {a} {out'} {r} {n} f e =
    let h = continues_to f e in
    let m : n ≡ 0 + length a = h.0 in
    (omega (arith, h.0), h.1, ap (λ i. take i out') m ∙ (f.fits (omega (arith, h.0, h.1))).1)

pub whole_over : {out a out' : List ℕ} {r : Option ℕ} → Continues out 0 a out' r → r ≡ None → length out < length a
whole_over f e = omega (arith, continues_over f e)

-- A text at the start of the part from n on is a text at n of the whole; the part comes back in its place (`put_mid`).
module _ (out : List ℕ) (n : ℕ) (inside : n ≤ length out) where
  all_left : take (length out - n) (drop n out) ≡ drop n out
  all_left = take_all (length out - n) (drop n out) (omega (arith, length-drop n out))

  none_after : drop (length out - n) (drop n out) ≡ []
  none_after = let past : length (drop n out) ≤ length out - n = omega (arith, length-drop n out) in drop_of_length-le (drop n out) past

  pub part_continues : {a part : List ℕ} {r : Option ℕ} → Continues (take (length out - n) (drop n out)) 0 a part r
      → Continues out n a (take n out ++ (part ++ drop (length out - n) (drop n out))) (shifted n r)
  part_continues {a} {part} {r} f =
      let g : Continues (drop n out) 0 a part r = rw all_left at f in
      let size : length (drop n out) ≡ length out - n = length-drop n out in
      let sum : n + (0 + length a) ≡ n + length a = omega arith in
      rw (none_after, append-nil part) record {
        fits = λ h.
            let p = g.fits (omega (arith, size)) in
            let start : take (0 + length a) part ≡ a = p.1 in
            let split : take n out ++ part ≡ (take n out ++ a) ++ drop (0 + length a) part =
            ap (λ l. take n out ++ l) (sym (take-append-drop (0 + length a) part)) ∙ ap (λ l. take n out ++ (l ++ drop (0 + length a) part)) start
            ∙ sym (append_assoc (take n out) a (drop (0 + length a) part)) in
            let front : length (take n out ++ a) ≡ n + length a = simp (length-append, length-take) (omega arith) in
            (ap (shifted n) p.0 ∙ ap Some sum, ap (take (n + length a)) split ∙ take_at (take n out ++ a) (drop (0 + length a) part) (n + length a) front);
        over = λ h. ap (shifted n) (g.over (omega (arith, size)));
        long = rw (length-append (take n out) part, g.long, length-take-le n out inside) (omega (arith, size));
      }
