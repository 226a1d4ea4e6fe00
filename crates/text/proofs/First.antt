-- The character that a list starts with: its first byte decides how long it can be, so that one sequence alone is in
-- question.
use Rattle.std.proofs.Common.{◌≡◌, refl, ap, ℕ, zero, suc, ◌-◌, ◌<◌, ◌≤◌, Bool, true, false, ◌⊎◌, inl, inr, ⊎_elim, List, [], ◌∷◌, length, take, arith}
use Rattle.std.proofs.Common.{MatchOption, IsTrue, ◌↔◌}
use Rattle.std.specs.Bool.{then_some}
use Rattle.std.proofs.lemmas.Bool.{false≢true, le-leb}
use Rattle.text.specs.Rule.{ones_of, ones, Sequence, Character, alone, several}
use Rattle.text.specs.Width.{StartsWith, StartsWithNone}

-- a list's beginning is known by its length
begin : (k : ℕ) (t : List ℕ) → take k t ≡ take (length (take k t)) t
begin zero t = refl
begin (suc k) [] = refl
begin (suc k) (x ∷ t) = ap (λ (l : List ℕ). x ∷ l) (begin k t)

-- which of the two characters that start with b
which : {s : List ℕ} → Character s → (b : ℕ) (t : List ℕ) → s ≡ b ∷ t → (b < 0x80) ⊎ Sequence b t
which (alone {b = a} h) b t e = let same : b ≡ a = cc in inl (rw same h)
which (several {b = a} {t = u} q) b t e = let first : a ≡ b = cc in let rest : u ≡ t = cc in inr (rw (first, rest) at q)

pub nonempty : {s : List ℕ} → Character s → 0 < length s
nonempty (alone h) = omega arith
nonempty (several q) = omega arith

-- a byte of 80 or more has a leading one
pub some_one : (b : ℕ) → 0x80 ≤ b → 0 < ones b
unfolding ones ones_of
some_one b h = rw (le-leb 0x80 b h, ones_of) (omega arith)

take_cons : (n b : ℕ) (t : List ℕ) → 0 < n → take n (b ∷ t) ≡ b ∷ take (n - 1) t
take_cons zero b t h = absurd (omega arith)
take_cons (suc n) b t h = ap (λ k. b ∷ take k t) (omega arith)

-- the byte b before t, with n leading ones
module _ (b n : ℕ) (t : List ℕ) (is : n ≡ ones b) where
  one_sequence : (k : ℕ) → Sequence b (take k t) → Sequence b (take (n - 1) t)
  one_sequence k q =
      let long : length (take k t) ≡ n - 1 = omega (arith, q.long) in
      rw (begin k t, long) at q

  pub none_starts : 0x80 ≤ b → (Sequence b (take (n - 1) t) → ⊥) → StartsWithNone (b ∷ t)
  none_starts h never zero c = omega (arith, nonempty c)
  none_starts h never (suc k) c = ⊎_elim (λ l. omega arith) (λ q. never (one_sequence k q)) (which c b (take k t) refl)

  -- the one sequence in question is none, or the character
  pub decided : 0x80 ≤ b → n - 1 ≤ length t → (r : Bool) → (IsTrue r ↔ Sequence b (take (n - 1) t))
      → MatchOption (then_some r n) (StartsWithNone (b ∷ t)) (StartsWith (b ∷ t))
  decided h room true d =
      let q = d.0 refl in
      record { within = omega arith; whole = rw (take_cons n b t (omega (arith, q.two))) (several q) }
  decided h room false d = none_starts h (λ q. absurd (false≢true (d.1 q)))
