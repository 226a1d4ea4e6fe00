-- A group and its words, a tally and its words: each gives the other back.
use Rattle.std.proofs.Common.{List, [], ◌∷◌, length, get_or, set, ◌≡◌, refl, sym, ap, subst, ◌∙◌, ℕ, zero, suc, ◌+◌, ◌*◌, ◌/◌, ◌%◌, ◌<◌, below_more, arith}
use Rattle.std.proofs.lemmas.Grind.{common_steps}
use Rattle.std.proofs.lemmas.List.{ext_get_or}
use Rattle.cabinet.specs.declared.Desk.{Desk}
use Rattle.cabinet.specs.declared.Group.{Group}
use Rattle.cabinet.specs.Cabinet.{absent, desk, places}
use Rattle.cabinet.proofs.Places.{length-places, get_or-places, places_by_all}
use Rattle.tariff.specs.declared.Tally.{Tally}
use Rattle.ledger.specs.Words.{desk_at, group_of, desk_words, group_words, tally_of, tally_words}

-- ---- The words of a group

pub length-desk_words : (ds : List Desk) → length (desk_words ds) ≡ 3 * length ds
unfolding desk_words
length-desk_words [] = refl
length-desk_words (d ∷ ds) = let h = length-desk_words ds in omega (arith, h)

pub length-group_words : (g : Group) → length (group_words g) ≡ 50
length-group_words g = omega (arith, length-desk_words (places (desk g) 16), length-places (desk g) 16)

-- Whatever the two words before them.
desk_words_at : (a b : ℕ) (ds : List Desk) (i : ℕ) → i < length ds → desk_at (a ∷ b ∷ desk_words ds) i ≡ get_or ds i absent
unfolding desk_words
desk_words_at a b [] i l = absurd (omega arith)
desk_words_at a b (d ∷ ds) zero l = refl
desk_words_at a b (d ∷ ds) (suc i) l =
    let s : 2 + 3 * suc i ≡ suc (suc (suc (2 + 3 * i))) = omega arith in
    let c : 3 + 3 * suc i ≡ suc (suc (suc (3 + 3 * i))) = omega arith in
    let u : 4 + 3 * suc i ≡ suc (suc (suc (4 + 3 * i))) = omega arith in
    rw (s, c, u) (desk_words_at d.cap d.used ds i (omega arith))

desk_at-group_words : (g : Group) (i : ℕ) → i < 16 → desk_at (group_words g) i ≡ desk g i
desk_at-group_words g i l = desk_words_at g.count g.pool (places (desk g) 16) i (omega (arith, length-places (desk g) 16)) ∙ get_or-places (desk g) 16 i l

-- The words of one more desk put after those of the desks below it.
module _ (g : Group) (ws : List ℕ) (i : ℕ) (long : length ws ≡ 50) (here : i < 16) (desks : (k : ℕ) → k < i → desk_at ws k ≡ desk g k) where
  abbrev written : List ℕ
  written = set (set (set ws (2 + 3 * i) (desk g i).share) (3 + 3 * i) (desk g i).cap) (4 + 3 * i) (desk g i).used

  other : (k : ℕ) → k < i → desk_at written k ≡ desk_at ws k
  other k l = let s : get_or written (2 + 3 * k) 0 ≡ get_or ws (2 + 3 * k) 0 = grind (arith, common_steps) in
      let c : get_or written (3 + 3 * k) 0 ≡ get_or ws (3 + 3 * k) 0 = grind (arith, common_steps) in
      let u : get_or written (4 + 3 * k) 0 ≡ get_or ws (4 + 3 * k) 0 = grind (arith, common_steps) in
      cc

  this : desk_at written i ≡ record { share = (desk g i).share; cap = (desk g i).cap; used = (desk g i).used }
  this = let s : get_or written (2 + 3 * i) 0 ≡ (desk g i).share = grind (arith, common_steps) in
      let c : get_or written (3 + 3 * i) 0 ≡ (desk g i).cap = grind (arith, common_steps) in
      let u : get_or written (4 + 3 * i) 0 ≡ (desk g i).used = grind (arith, common_steps) in
      cc

  pub desk_put : (k : ℕ) → k < i + 1 → desk_at written k ≡ desk g k
  desk_put = below_more _ _ (λ k l. other k l ∙ desks k l) this

-- Fifty words that stand for a group are its words.
module _ (g : Group) (ws : List ℕ) (long : length ws ≡ 50) (count : get_or ws 0 0 ≡ g.count) (pool : get_or ws 1 0 ≡ g.pool)
    (desks : (i : ℕ) → i < 16 → desk_at ws i ≡ desk g i) where
  abbrev Same : ℕ → Type 0
  Same j = get_or ws j 0 ≡ get_or (group_words g) j 0

  same_desk : (i : ℕ) → i < 16 → desk_at ws i ≡ desk_at (group_words g) i
  same_desk i l = desks i l ∙ sym (desk_at-group_words g i l)

  each : (j : ℕ) → j < 50 → Same j
  each zero b = count
  each (suc zero) b = pool
  each (suc (suc k)) b = go (k / 3) (k % 3) (omega arith) (omega arith)
    where
      go : (i r : ℕ) → k ≡ 3 * i + r → r < 3 → Same (suc (suc k))
      go i zero e l = let q : 2 + 3 * i ≡ suc (suc k) = omega arith in subst Same q (ap (λ d. d.share) (same_desk i (omega arith)))
      go i (suc zero) e l = let q : 3 + 3 * i ≡ suc (suc k) = omega arith in subst Same q (ap (λ d. d.cap) (same_desk i (omega arith)))
      go i (suc (suc zero)) e l = let q : 4 + 3 * i ≡ suc (suc k) = omega arith in subst Same q (ap (λ d. d.used) (same_desk i (omega arith)))
      go i (suc (suc (suc r))) e l = absurd (omega arith)

  pub words_are : ws ≡ group_words g
  words_are = ext_get_or 0 ws (group_words g) (long ∙ sym (length-group_words g)) (λ j b. each j (omega (arith, long)))

-- ---- There and back

-- "the group unchanged" is: its words are.
pub words_group : (ws : List ℕ) → length ws ≡ 50 → group_words (group_of ws) ≡ ws
words_group ws l = sym (words_are (group_of ws) ws l refl refl (λ i b. sym (get_or-places (desk_at ws) 16 i b)))

-- A call is handed the group that the call before it left.
pub group_words_lem : (g : Group) → length g.desks ≡ 16 → group_of (group_words g) ≡ g
group_words_lem g l = sym (ap (λ ds. record g { desks = ds }) (places_by_all (desk_at (group_words g)) g.desks 16 l (λ i b. sym (desk_at-group_words g i b))))

pub words_tally : (ws : List ℕ) → length ws ≡ 3 → tally_words (tally_of ws) ≡ ws
words_tally [] l = absurd (omega arith)
words_tally (a ∷ []) l = absurd (omega arith)
words_tally (a ∷ b ∷ []) l = absurd (omega arith)
words_tally (a ∷ b ∷ c ∷ []) l = refl
words_tally (a ∷ b ∷ c ∷ d ∷ ws) l = absurd (omega arith)

pub tally_words_lem : (t : Tally) → tally_of (tally_words t) ≡ t
tally_words_lem t = refl
