-- One writer after another is the writer of the joined text: the first leaves the place where the second starts, and what
-- the first could not finish the two cannot.
use Rattle.std.proofs.Common.{◌≡◌, ℕ, suc, ◌+◌, ◌-◌, ◌≤◌, ◌<◌, List, [], ◌∷◌, ◌++◌, length, take, drop, get_or, set, None, Option, Some, refl, sym, ap, ◌∙◌}
use Rattle.std.proofs.Common.{append_assoc, append-nil, add-one, arith, length-append, length-take, length-drop, length-set, take-append-drop, replicate}
use Rattle.std.proofs.Common.{drop_of_length-le}
use Rattle.std.proofs.Math.Decide.{dec_le}
use Rattle.std.proofs.lemmas.List.{take_more, take_all}
use Rattle.std.proofs.Math.Seq.{length-take-le, take_at, drop-append-add, drop-drop, set_split, append_snoc}
use borrow.Rule.Slice.PartMut.{put_mid}
use Rattle.writer.specs.Writes.{placed, Writes, Moves}

-- ---- A text in its place

module _ {A : Type 0} (at : ℕ) (a out : List A) (h : at + length a ≤ length out) where
  pub placed_long : length (placed at a out) ≡ length out
  unfolding placed
  placed_long = simp (length-append, length-take, length-drop) (omega arith)

  head_long : length (take at out ++ a) ≡ at + length a
  head_long = simp (length-append, length-take-le at out (omega arith))

  take_placed : take (at + length a) (placed at a out) ≡ take at out ++ a
  unfolding placed
  take_placed = take_at (take at out ++ a) (drop (at + length a) out) (at + length a) head_long

  drop_placed : (n : ℕ) → drop (at + length a + n) (placed at a out) ≡ drop (at + length a + n) out
  unfolding placed
  drop_placed n =
      ap (λ (m : ℕ). drop (m + n) (take at out ++ a ++ drop (at + length a) out)) (sym head_long)
      ∙ drop-append-add (take at out ++ a) (drop (at + length a) out) n
      ∙ drop-drop n (at + length a) out

  pub placed_then : (b : List A) → placed (at + length a) b (placed at a out) ≡ placed at (a ++ b) out
  unfolding placed
  placed_then b =
      let sum : at + length a + length b ≡ at + (length a + length b) = omega arith in
      ap (λ (l : List A). l ++ b ++ drop (at + length a + length b) (placed at a out)) take_placed
      ∙ ap (λ (l : List A). take at out ++ a ++ b ++ l) (drop_placed (length b))
      ∙ rw (append_assoc (take at out) a b, length-append a b, sum)

-- ---- Writers

pub writes_none : {A : Type 0} (out : List A) (at : ℕ) → at ≤ length out → Writes out at [] out (Some at)
unfolding placed
writes_none out at b = record {
  fits = λ h. let none : at + 0 ≡ at = omega arith in (ap Some (sym none), sym (rw (append-nil (take at out), none) (take-append-drop at out)));
  over = λ h. absurd (omega arith);
  long = refl;
}

pub writes_one : {A : Type 0} (out : List A) (at : ℕ) (b : A) → at < length out → Writes out at (b ∷ []) (set out at b) (Some (at + 1))
unfolding placed
writes_one out at b h = record {
  fits = λ _. (refl, rw (set_split out at b h, add-one at) (sym (append_snoc (take at out) b (drop (suc at) out))));
  over = λ o. absurd (omega arith);
  long = simp length-set;
}

pub full_one : {A : Type 0} (out : List A) (at : ℕ) (b : A) → length out ≤ at → Writes out at (b ∷ []) out None
full_one out at b h = record { fits = λ l. absurd (omega arith); over = λ o. refl; long = refl }

-- What follows a text that did not fit does not fit.
pub writes_full : {A : Type 0} {out : List A} {at : ℕ} {a : List A} {mid : List A} {r : Option ℕ} → Writes out at a mid r → r ≡ None → (b : List A)
    → Writes out at (a ++ b) mid None
writes_full {out} {at} {a} {mid} {r} f e b = record {
  fits = λ h. let l : length (a ++ b) ≡ length a + length b = length-append a b in
      let g : r ≡ Some (at + length a) = (f.fits (omega arith)).0 in
      cc;
  over = λ o. refl;
  long = f.long;
}

pub writes_then : {A : Type 0} {out : List A} {at : ℕ} {a : List A} {mid : List A} {r : Option ℕ} {n : ℕ} {b : List A} {out' : List A} {r' : Option ℕ}
    → Writes out at a mid r → r ≡ Some n → Writes mid n b out' r' → Writes out at (a ++ b) out' r'
writes_then {out} {at} {a} {mid} {r} {n} {b} {out'} {r'} f e g = record {
  fits = λ h. went (omega (arith, whole)) (omega (arith, whole));
  over = λ h. ran_out (omega (arith, whole)) (dec_le (at + length a) (length out));
  long = g.long ∙ f.long;
}
  where
    whole : length (a ++ b) ≡ length a + length b
    whole = length-append a b

    next : at + length a ≤ length out → n ≡ at + length a
    next h = let p : r ≡ Some (at + length a) = (f.fits h).0 in cc

    went : at + length a ≤ length out → at + length a + length b ≤ length out → (r' ≡ Some (at + length (a ++ b))) × (out' ≡ placed at (a ++ b) out)
    went h k =
        let m : n ≡ at + length a = next h in
        let p = g.fits (omega (arith, f.long)) in
        let sum : n + length b ≡ at + length (a ++ b) = omega (arith, whole) in
        (p.0 ∙ ap Some sum, p.1 ∙ rw (m, (f.fits h).1) (placed_then at a out h b))

    ran_out : length out < at + length a + length b → Dec (at + length a ≤ length out) → r' ≡ None
    ran_out h (no o) = let p : r ≡ None = f.over (omega arith) in cc
    ran_out h (yes o) = let m : n ≡ at + length a = next o in g.over (omega (arith, f.long))

-- the same text, said in another way
pub writes_as : {A : Type 0} {out : List A} {at : ℕ} {a b : List A} {out' : List A} {r : Option ℕ} → a ≡ b → Writes out at a out' r → Writes out at b out' r
writes_as e f = rw (← e) f

-- A part, copied one by one: what stands before the index is written.
pub record Copying {A : Type 0} (s out₀ : List A) (at : ℕ) (out : List A) (i : ℕ) : Type 0 where
  pub done : Writes out₀ at (take i s) out (Some (at + i))
  pub room : at + length s ≤ length out₀

pub copy_start : {A : Type 0} (s out : List A) (at : ℕ) → at ≤ length out → length s ≤ length out - at → Copying s out at out 0
copy_start s out at l h =
    let none : at + 0 ≡ at = omega arith in
    record { done = rw none (writes_none out at l); room = omega arith }

module _ {A : Type 0} {s out₀ : List A} {at : ℕ} {out : List A} {i : ℕ} (g : Copying s out₀ at out i) where
  pub copy_next : i < length s → {x : A} → x ≡ get_or s i x → Copying s out₀ at (set out (at + i) x) (i + 1)
  copy_next h {x} e =
      let on : at + i + 1 ≡ at + (i + 1) = omega arith in
      let more : take i s ++ x ∷ [] ≡ take (i + 1) s = sym (rw (← e) at (take_more s i x h)) in
      let one = writes_one out (at + i) x (omega (arith, g.done.long, g.room)) in
      record { done = rw on at (writes_as more (writes_then g.done refl one)); room = g.room }

  pub copy_done : length s ≤ i → Writes out₀ at s out (Some (at + length s))
  copy_done h =
      let all = rw (take_all i s h) at g.done in
      rw (all.fits g.room).0 at all

-- ---- Where a writer has come to

-- What ends within the slice, or is left out, stands where it is said to end, or would end past the slice.
module _ {r : Option ℕ} {end size : ℕ} (fits : end ≤ size → r ≡ Some end) (over : size < end → r ≡ None) where
  pub ends_there : {n : ℕ} → r ≡ Some n → (n ≡ end) × (n ≤ size)
  ends_there {n} e = go (dec_le end size)
    where
      go : Dec (end ≤ size) → (n ≡ end) × (n ≤ size)
      go (no o) = cc (over (omega arith))
      go (yes o) = let q : n ≡ end = cc (fits o) in (q, omega arith)

  pub ends_over : r ≡ None → size < end
  ends_over e = go (dec_le end size)
    where
      go : Dec (end ≤ size) → size < end
      go (no o) = omega arith
      go (yes o) = cc (fits o)

pub writes_to : {A : Type 0} {out : List A} {at : ℕ} {a : List A} {out' : List A} {r : Option ℕ} {n : ℕ} → Writes out at a out' r → r ≡ Some n
    → (n ≡ at + length a) × (n ≤ length out)
writes_to f e = ends_there (λ h. (f.fits h).0) f.over e

-- What the caller of a whole text is told: it stands at the slice's start and ends where it is said, or it is longer than the slice.
pub whole_there : {A : Type 0} {out a out' : List A} {r : Option ℕ} {n : ℕ} → Writes out 0 a out' r → r ≡ Some n → (n ≡ length a) × (n ≤ length out)
    × (take n out' ≡ a)
unfolding placed
whole_there {out} {a} {out'} {r} {n} f e =
    let h = writes_to f e in
    let z : 0 + length a ≡ length a = omega arith in
    let m : n ≡ length a = omega (arith, h.0) in
    (m, h.1, rw ((f.fits (omega (arith, h.0, h.1))).1, m) (take_at a (drop (0 + length a) out) (length a) refl))

pub writes_over : {A : Type 0} {out : List A} {at : ℕ} {a out' : List A} {r : Option ℕ} → Writes out at a out' r → r ≡ None → length out < at + length a
writes_over f e = ends_over (λ h. (f.fits h).0) f.over e

pub whole_over : {A : Type 0} {out a out' : List A} {r : Option ℕ} → Writes out 0 a out' r → r ≡ None → length out < length a
whole_over f e = omega (arith, writes_over f e)

pub writes_moves : {A : Type 0} {out : List A} {at : ℕ} {a : List A} {out' : List A} {r : Option ℕ} → Writes out at a out' r → Moves out at out' r
writes_moves f = record {
  onward = λ n e. omega (arith, (writes_to f e).0);
  inside = λ n e l. (writes_to f e).1;
  long = f.long;
}

pub full_moves : {A : Type 0} {out : List A} {at : ℕ} {out' : List A} → length out' ≡ length out → Moves out at out' None
full_moves l = record {
  onward = λ n e. cc;
  inside = λ n e b. cc;
  long = l;
}

pub moves_then : {A : Type 0} {out : List A} {at : ℕ} {mid : List A} {r : Option ℕ} {n : ℕ} {out' : List A} {r' : Option ℕ} → Moves out at mid r → r ≡ Some n
    → Moves mid n out' r' → Moves out at out' r'
moves_then {out} {at} {mid} {r} {n} f e g = record {
  onward = λ m p. omega (arith, f.onward n e, g.onward m p);
  inside = λ m p l. let h : n ≤ length mid = omega (arith, f.inside n e l, f.long) in omega (arith, g.inside m p h, f.long);
  long = g.long ∙ f.long;
}

-- ---- A loop of writers

-- What it has done: it went forward and stayed in the slice.
pub moves_none : {A : Type 0} (out : List A) (at : ℕ) → Moves out at out (Some at)
moves_none out at = record {
  onward = λ n e. let q : at ≡ n = cc in omega arith;
  inside = λ n e l. let q : at ≡ n = cc in omega arith;
  long = refl;
}

pub moves_next : {A : Type 0} {out₀ : List A} {at : ℕ} {out : List A} {to : ℕ} {out' : List A} {r : Option ℕ} {n : ℕ} → Moves out₀ at out (Some to)
    → Moves out to out' r → r ≡ Some n → Moves out₀ at out' (Some n)
moves_next c f e = rw e at (moves_then c refl f)

-- What is left: to write the rest from here is to write the whole from the start.
pub record Goes {A : Type 0} (out₀ : List A) (at : ℕ) (whole out : List A) (to : ℕ) (rest : List A) : Type 0 where
  pub inside : to ≤ length out
  pub go : (out' : List A) (r : Option ℕ) → Writes out to rest out' r → Writes out₀ at whole out' r

pub goes_start : {A : Type 0} (out : List A) (at : ℕ) (whole rest : List A) → at ≤ length out → rest ≡ whole → Goes out at whole out at rest
goes_start out at whole rest l e = record { inside = l; go = λ out' r f. writes_as e f }

module _ {A : Type 0} {out₀ : List A} {at : ℕ} {whole out : List A} {to : ℕ} {rest : List A} (g : Goes out₀ at whole out to rest) where
  pub goes_next : (a b : List A) → rest ≡ a ++ b → {mid : List A} {r : Option ℕ} {n : ℕ} → Writes out to a mid r → r ≡ Some n → Goes out₀ at whole mid n b
  goes_next a b e f p = record { inside = omega (arith, (writes_to f p).1, f.long); go = λ out' r' h. g.go out' r' (writes_as (sym e) (writes_then f p h)) }

  pub goes_full : (a b : List A) → rest ≡ a ++ b → {mid : List A} {r : Option ℕ} → Writes out to a mid r → r ≡ None → Writes out₀ at whole mid None
  goes_full a b e {mid} f p = g.go mid None (writes_as (sym e) (writes_full f p b))

  pub goes_done : rest ≡ [] → Writes out₀ at whole out (Some to)
  goes_done e = g.go out (Some to) (writes_as (sym e) (writes_none out to g.inside))

-- ---- A part of a slice

-- zeros from n on
pub cleared : (l zeros : List ℕ) (n : ℕ) → zeros ≡ replicate (length (take (length l - n) (drop n l))) 0
    → put_mid n (length l - n) l zeros ≡ take n l ++ replicate (length l - n) 0
cleared l zeros n e =
    let none : drop (length l - n) (drop n l) ≡ [] = drop_of_length-le (drop n l) (omega (arith, length-drop n l)) in
    let all : length (take (length l - n) (drop n l)) ≡ length l - n = simp (length-take, length-drop) (omega arith) in
    rw (none, append-nil, e, all)

-- What a writer to the part that starts at n has come to in the whole.
abbrev pub shifted : ℕ → Option ℕ → Option ℕ
shifted n (Some m) = Some (n + m)
shifted n None = None
