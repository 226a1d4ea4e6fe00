-- A list by what stands at each of its places.
use Rattle.std.proofs.Common.{List, length, get_or, ◌≡◌, ℕ, zero, suc, ◌+◌, ◌<◌, ◌∙◌, subst, arith}
use Rattle.std.proofs.lemmas.List.FromFn.{length-map-range_with_len, get_or-map-range_with_len, fill_by_all}
use Rattle.std.specs.Array.{IsFromFnResult, IsFromFnResultFrom, IsMapOf}
use Rattle.std.specs.Fn.{Called}
use denote.Param.Members.{Mut}
use Rattle.cabinet.specs.declared.Desk.{Desk}
use Rattle.cabinet.specs.Cabinet.{absent, places}

pub length-places : (f : ℕ → Desk) (n : ℕ) → length (places f n) ≡ n
unfolding places
length-places f n = length-map-range_with_len f 0 n

pub get_or-places : (f : ℕ → Desk) (n i : ℕ) → i < n → get_or (places f n) i absent ≡ f i
unfolding places
get_or-places f n i l = get_or-map-range_with_len f 0 n i i absent l (omega arith)

pub places_by_all : (f : ℕ → Desk) (ds : List Desk) (n : ℕ) → length ds ≡ n → ((i : ℕ) → i < n → get_or ds i absent ≡ f i) → ds ≡ places f n
unfolding places
places_by_all f ds n l h = fill_by_all f ds n absent l h

-- What `array::from_fn` makes of a closure that gives h of each index and stays as it is.
module _ {F : Type 0} (g : Mut F (ℕ × Unit {0}) Desk) (f : F) (h : ℕ → Desk)
    (says : (i : ℕ) (d : Desk) (q : F) → Called g f (i, tt) d q → (q ≡ f) × (d ≡ h i)) where
  each_made : (ds : List Desk) (i n : ℕ) → IsFromFnResultFrom g f ds i n → (k j : ℕ) → i + k ≡ j → k < n → get_or ds j absent ≡ h j
  each_made ds i zero e k j p l = absurd (omega arith)
  each_made ds i (suc n) e zero j p l = let q : i ≡ j = omega arith in subst (λ j. get_or ds j absent ≡ h j) q (e.2.1 absent ∙ (says i e.1 e.0 e.3).1)
  each_made ds i (suc n) e (suc k) j p l =
      each_made ds (i + 1) n (subst (λ q. IsFromFnResultFrom g q ds (i + 1) n) (says i e.1 e.0 e.3).0 e.4) k j (omega arith) (omega arith)

  pub places_from_fn : (ds : List Desk) (n : ℕ) → IsFromFnResult g f ds n → ds ≡ places h n
  places_from_fn ds n r = places_by_all h ds n r.long (λ i l. each_made ds 0 n r.each i i (omega arith) l)

-- What `map` makes of a list by a closure that gives h of each element.
pub places_map : {F : Type 0} (g : Mut F (Desk × Unit {0}) Desk) (f : F) (h : Desk → Desk) → ((d e : Desk) (p q : F) → Called g p (d, tt) e q → e ≡ h d)
    → (ds es : List Desk) (n : ℕ) → IsMapOf g f ds es n → es ≡ places (λ i. h (get_or ds i absent)) n
places_map g f h says ds es n r = places_by_all (λ i. h (get_or ds i absent)) es n r.long (λ i l. let a = r.at i absent absent l in says _ _ a.0 a.1 a.2)
