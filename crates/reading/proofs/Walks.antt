-- Loops over the parts of a type: what is asked of all parts is what is asked of the parts left.
use mathlib.Core.Bool.{Bool, true, false}
use mathlib.Core.Logic.{⊎_elim}
use mathlib.Core.List.{List, [], ◌∷◌, ◌++◌, map}
use mathlib.Core.Path.{◌≡◌, refl, sym, ap, ◌∙◌}
use Prim.Native.Nat.{ℕ, zero, suc, ◌+◌, ◌<◌, ◌≤◌}
use native.Mathlib.Numerals.{add-one}
use native.Mathlib.Omega.{arith}
use lib.Dec.{eqb, ltb}
use lib.ListN.{length, get_or, set, take, drop, replicate, length-set, length-replicate, drop_of_length-le}
use lib.Seq.{sets, drop-cons, get_or-set_same, get_or-set_other}
use borrow.Author.Tests.{eqb-true, eqb-false, eq-eqb, ne_eqb, lt-ltb, le-ltb, ltb-true, ltb-false}
use Rattle.std.proofs.lemmas.List.{take_more}
use Rattle.std.specs.Prelude.{◌&&◌, ◌≢◌, MatchBool, HoldsAt}
use Rattle.std.specs.List.{AllWithin}
use Rattle.std.proofs.lemmas.Bool.{and_parts, and_cases, and_right}
use Rattle.cells.specs.declared.Kind.{Kind}
use Rattle.cells.specs.declared.Kind.TheVariants.{Fields, Alternatives}
use Rattle.cells.specs.Stands.{part_words}
use Rattle.format.specs.Conditions.{any_of, all_below, among, again}
use Rattle.format.proofs.Tests.{cases}
use Rattle.frames.specs.Promises.{half_w}
use Rattle.reading.specs.Parts.{type_w, words_w, names_of, types_of, is_early, words_of}

pub front : {X : Type 0} (xs : List X) (i : ℕ) (d : X) → i < length xs → drop i xs ≡ get_or xs i d ∷ drop (i + 1) xs
front xs i d l = rw add-one (drop-cons xs i d l)

pub front_is : {X : Type 0} (xs : List X) (i : ℕ) (p : X) → i < length xs → p ≡ get_or xs i p → drop i xs ≡ p ∷ drop (i + 1) xs
front_is xs i p l e = front xs i p l ∙ ap (λ q. q ∷ drop (i + 1) xs) (sym e)

-- ---- Names and types that are there

module _ (k : Kind) (names types : ℕ) where
  abbrev pub earlier : List (List ℕ) → Bool
  earlier parts = all_below names (names_of parts) && all_below types (types_of k parts)

  pub earlier_next : (p : List ℕ) (parts : List (List ℕ)) → half_w p 0 < names → type_w k p 0 < types → earlier (p ∷ parts) ≡ earlier parts
  unfolding all_below
  earlier_next p parts a b = rw (lt-ltb (half_w p 0) names a, lt-ltb (type_w k p 0) types b)

  pub earlier_no_name : (p : List ℕ) (parts : List (List ℕ)) → names ≤ half_w p 0 → earlier (p ∷ parts) ≡ false
  unfolding all_below
  earlier_no_name p parts a = rw (le-ltb (half_w p 0) names a)

  pub earlier_no_type : (p : List ℕ) (parts : List (List ℕ)) → types ≤ type_w k p 0 → earlier (p ∷ parts) ≡ false
  unfolding all_below
  earlier_no_type p parts b = rw (le-ltb (type_w k p 0) types b) (and_right (ltb (half_w p 0) names && all_below names (names_of parts)) false refl)

  early_on : (p : List ℕ) (parts : List (List ℕ)) → is_early k names types p ≡ true → earlier (p ∷ parts) ≡ earlier parts
  early_on p parts e =
      let b = and_parts (ltb (half_w p 0) names) (ltb (type_w k p 0) types) e in
      earlier_next p parts (ltb-true (half_w p 0) names b.0) (ltb-true (type_w k p 0) types b.1)

  early_off : (p : List ℕ) (parts : List (List ℕ)) → is_early k names types p ≡ false → earlier (p ∷ parts) ≡ false
  early_off p parts e = ⊎_elim
      (λ q. earlier_no_name p parts (ltb-false (half_w p 0) names q))
      (λ q. earlier_no_type p parts (ltb-false (type_w k p 0) types q))
      (and_cases (ltb (half_w p 0) names) (ltb (type_w k p 0) types) e)

  early_all : (parts : List (List ℕ)) → AllWithin (λ p. is_early k names types p ≡ true) parts 0 (length parts) → earlier parts ≡ true
  unfolding all_below
  early_all [] h = refl
  early_all (p ∷ parts) h = early_on p parts (h 0 p (omega arith) (omega arith)) ∙ early_all parts (λ j d a b. h (suc j) d (omega arith) (omega arith))

  early_none : (parts : List (List ℕ)) (j : ℕ) (d : List ℕ) → j < length parts → is_early k names types (get_or parts j d) ≡ false → earlier parts ≡ false
  early_none [] j d l e = absurd (omega arith)
  early_none (p ∷ parts) zero d l e = early_off p parts e
  early_none (p ∷ parts) (suc j) d l e = cases (is_early k names types p)
      (λ q. early_on p parts q ∙ early_none parts j d (omega arith) e)
      (early_off p parts)

  -- what `all` gives
  pub all_early : (parts : List (List ℕ)) (r : Bool)
      → MatchBool r (AllWithin (λ p. is_early k names types p ≡ true) parts 0 (length parts))
      ((j : ℕ) × (j < length parts) × HoldsAt (λ p. is_early k names types p ≡ false) parts j)
      → r ≡ earlier parts
  all_early parts true m = sym (early_all parts m)
  all_early [] false m = absurd (omega (arith, m.1))
  all_early (p ∷ parts) false m = sym (early_none (p ∷ parts) m.0 p m.1 (m.2 p))

-- ---- Words

pub few_words : (k : Kind) → part_words k ≤ 2
few_words Fields = omega arith
few_words Alternatives = omega arith

pub words_next : (k : Kind) (p : List ℕ) (parts : List (List ℕ)) (w : List ℕ) (at : ℕ)
    → sets w at (words_of k (p ∷ parts)) ≡ sets (sets w at (words_w k p 0)) (at + part_words k) (words_of k parts)
words_next Fields p parts w at = rw add-one
words_next Alternatives p parts w at = let z : at + 2 ≡ suc (suc at) = omega arith in rw z

-- ---- Keys

pub among_here : (n m : ℕ) (ms : List ℕ) → m ≡ n → among n (m ∷ ms) ≡ true
unfolding among any_of
among_here n m ms e = rw (eq-eqb n m (sym e), any_of)

pub among_next : (n m : ℕ) (ms : List ℕ) → (m ≡ n → ⊥) → among n (m ∷ ms) ≡ among n ms
unfolding among any_of
among_next n m ms e = rw (ne_eqb n m (λ q. e (sym q)), any_of)

pub again_next : (earlier : List ℕ) (n : ℕ) (ns : List ℕ) → among n earlier ≡ false → again earlier (n ∷ ns) ≡ again (n ∷ earlier) ns
unfolding again
again_next earlier n ns q = rw (q, again)

pub again_here : (earlier : List ℕ) (n : ℕ) (ns : List ℕ) → among n earlier ≡ true → again earlier (n ∷ ns) ≡ true
unfolding again
again_here earlier n ns q = rw (q, again)

-- What `any` gives over the keys.
module _ {X : Type 0} (key : X → ℕ) (n : ℕ) where
  among_one : (xs : List X) (k : ℕ) (d : X) → k < length xs → key (get_or xs k d) ≡ n → among n (map key xs) ≡ true
  among_one [] k d l e = absurd (omega arith)
  among_one (x ∷ xs) zero d l e = among_here n (key x) (map key xs) e
  among_one (x ∷ xs) (suc k) d l e = cases (eqb n (key x))
      (λ q. among_here n (key x) (map key xs) (sym (eqb-true n (key x) q)))
      (λ q. among_next n (key x) (map key xs) (λ p. eqb-false n (key x) q (sym p)) ∙ among_one xs k d (omega arith) e)

  among_none : (xs : List X) → AllWithin (λ x. key x ≢ n) xs 0 (length xs) → among n (map key xs) ≡ false
  unfolding among any_of
  among_none [] h = refl
  among_none (x ∷ xs) h = among_next n (key x) (map key xs) (h 0 x (omega arith) (omega arith))
      ∙ among_none xs (λ k d a b. h (suc k) d (omega arith) (omega arith))

  pub any_among : (xs : List X) (r : Bool) → MatchBool r ((k : ℕ) × (k < length xs) × HoldsAt (λ x. key x ≡ n) xs k)
      (AllWithin (λ x. key x ≢ n) xs 0 (length xs))
      → r ≡ among n (map key xs)
  any_among [] true m = absurd (omega (arith, m.1))
  any_among (x ∷ xs) true m = sym (among_one (x ∷ xs) m.0 x m.1 (m.2 x))
  any_among xs false m = sym (among_none xs m)

-- A list's order does not matter to what is among it.
pub again_same : (a b ns : List ℕ) → ((n : ℕ) → among n a ≡ among n b) → again a ns ≡ again b ns
unfolding again among any_of
again_same a b [] h = refl
again_same a b (n ∷ ns) h = cases (among n b)
    (λ q. rw (h n, q, again))
    (λ q. rw (h n, q, again) (again_same (n ∷ a) (n ∷ b) ns (λ m. ap (λ t. elim (eqb m n) [ true ↦ true | false ↦ t ]) (h m))))

pub among_last : (n x : ℕ) (l : List ℕ) → among n (x ∷ l) ≡ among n (l ++ x ∷ [])
unfolding among any_of
among_last n x [] = refl
among_last n x (y ∷ l) = cases (eqb n y)
    (λ q. cases (eqb n x) (λ p. rw (p, q, any_of)) (λ p. rw (p, q, any_of)))
    (λ q. cases (eqb n x) (λ p. rw (p, q, any_of) (rw (p, any_of) at (among_last n x l))) (λ p. rw (p, q, any_of) (rw (p, any_of) at (among_last n x l))))

-- The keys passed, none of which repeats, and the keys left.
module _ {X : Type 0} (key : X → ℕ) (xs : List X) where
  abbrev pub Telling : ℕ → Type 0
  Telling i = again [] (map key xs) ≡ again (map key (take i xs)) (map key (drop i xs))

  module _ {i : ℕ} (t : Telling i) (d : X) (l : i < length xs) where
    abbrev n : ℕ
    n = key (get_or xs i d)

    left : again [] (map key xs) ≡ again (map key (take i xs)) (n ∷ map key (drop (i + 1) xs))
    left = t ∙ ap (λ ys. again (map key (take i xs)) (map key ys)) (front xs i d l)

    map_last : (ys : List X) (x : X) → map key (ys ++ x ∷ []) ≡ map key ys ++ key x ∷ []
    map_last [] x = refl
    map_last (y ∷ ys) x = ap (λ l. key y ∷ l) (map_last ys x)

    pub tell_next : among n (map key (take i xs)) ≡ false → Telling (i + 1)
    tell_next e = left ∙ again_next (map key (take i xs)) n (map key (drop (i + 1) xs)) e ∙ again_same
        (n ∷ map key (take i xs)) (map key (take (i + 1) xs)) (map key (drop (i + 1) xs))
        (λ m. among_last m n (map key (take i xs)) ∙ ap (among m) (sym (ap (map key) (take_more xs i d l) ∙ map_last (take i xs) (get_or xs i d))))

    pub tell_repeats : among n (map key (take i xs)) ≡ true → again [] (map key xs) ≡ true
    tell_repeats e = left ∙ again_here (map key (take i xs)) n (map key (drop (i + 1) xs)) e

  pub tell_end : {i : ℕ} → Telling i → length xs ≤ i → again [] (map key xs) ≡ false
  unfolding again
  tell_end {i} t l = t ∙ ap (λ ys. again (map key (take i xs)) (map key ys)) (drop_of_length-le xs l)

-- ---- Names marked where they stand first

pub record Seen (xs : List (List ℕ)) (i : ℕ) (seen : List Bool) : Type 0 where
  pub long : length seen ≡ 256
  pub is : (x : ℕ) → x < 256 → get_or seen x false ≡ among x (names_of (take i xs))

pub seen_start : (xs : List (List ℕ)) → Seen xs 0 (replicate 256 false)
unfolding among any_of
seen_start xs = record { long = length-replicate {A = Bool} 256 false; is = λ x h. none 256 x }
  where
    none : (n x : ℕ) → get_or (replicate n false) x false ≡ false
    none zero x = refl
    none (suc n) zero = refl
    none (suc n) (suc x) = none n x

pub seen_next : {xs : List (List ℕ)} {i : ℕ} {seen : List Bool} → Seen xs i seen → (x : ℕ) → x ≡ half_w (get_or xs i []) 0 → x < 256 → i < length xs
    → Seen xs (i + 1) (set seen x true)
unfolding among any_of
seen_next {xs} {i} {seen} m x e h l = record {
  long = simp length-set m.long;
  is = λ y b. cases (eqb y x)
      (λ t. ap (λ j. get_or (set seen x true) j false) (eqb-true y x t) ∙ get_or-set_same seen x true false (omega (arith, m.long)) ∙ sym
      (last y ∙ rw (t, any_of)))
      (λ f. get_or-set_other seen x y true false (eqb-false y x f) ∙ m.is y b ∙ sym (last y ∙ rw (f, any_of)));
}
  where
    names_last : (ys : List (List ℕ)) (p : List ℕ) → names_of (ys ++ p ∷ []) ≡ names_of ys ++ half_w p 0 ∷ []
    names_last [] p = refl
    names_last (y ∷ ys) p = ap (λ l. half_w y 0 ∷ l) (names_last ys p)

    last : (y : ℕ) → among y (names_of (take (i + 1) xs)) ≡ among y (x ∷ names_of (take i xs))
    last y = ap (λ l. among y (names_of l)) (take_more xs i [] l) ∙ ap (among y) (names_last (take i xs) (get_or xs i []) ∙ ap
        (λ k. names_of (take i xs) ++ k ∷ []) (sym e)) ∙ sym (among_last y x (names_of (take i xs)))
