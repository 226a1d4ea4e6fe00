-- What `parse` says of a text without a plus sign is what its digits go on to, one by one.
use Rattle.std.proofs.Common.{◌≡◌, ℕ, ◌+◌, ◌-◌, ◌*◌, ◌<◌, ◌≤◌, rules, Bool, true, false, ltb, leb, List, [], ◌∷◌, length, get_or, None, Some, refl, sym, ap}
use Rattle.std.proofs.Common.{◌∙◌, arith, eqb, eqb-true, lt-ltb, ltb-true, leb-true}
use Rattle.std.specs.Prelude.{◌&&◌, Ok, Err, Result}
use Rattle.std.specs.Borrow.{Bor}
use Rattle.std.specs.Result.{MatchResult, OkIff, result_ok}
use Rattle.std.specs.Str.{IsUtf8, all_ascii_digits}
use Rattle.std.specs.Str.Parse.{ParsesUnsigned}
use Rattle.std.proofs.lemmas.Bool.{and_parts, and_from, eqb-false}
use Rattle.std.proofs.lemmas.Fmt.{IsAscii-from_digits}
use Rattle.std.proofs.lemmas.Str.{IsUtf8-from_ascii}
use Rattle.std.proofs.lemmas.Str.Parse.{IsNumeralModel, numerals_by_fold, parse_plain}
use Rattle.input.specs.Numbers.{digits_from, decimal}

abbrev read_on : ℕ → List ℕ → ℕ
read_on v [] = v
read_on v (b ∷ s) = read_on (10 * v + (b - 48)) s

abbrev Digits : List ℕ → Type 0
Digits s = all_ascii_digits s ≡ true

own : IsNumeralModel Digits (read_on 0)
own = numerals_by_fold _ (search rules) read_on (search rules)

-- Each digit leaves no less.
grows : (s : List ℕ) (v : ℕ) → v ≤ read_on v s
grows [] v = omega arith
grows (b ∷ s) v = omega (arith, grows s (10 * v + (b - 48)))

module _ (b : ℕ) (s : List ℕ) (p : Digits (b ∷ s)) where
  first : (leb 48 b && leb b 57) ≡ true
  first = (and_parts (leb 48 b && leb b 57) (all_ascii_digits s) p).0

  others : Digits s
  others = (and_parts (leb 48 b && leb b 57) (all_ascii_digits s) p).1

reads : (s : List ℕ) (v : ℕ) → Digits s → read_on v s < 0x1_0000_0000 → digits_from v s ≡ Some (read_on v s)
unfolding digits_from
reads [] v p h = refl
reads (b ∷ s) v p h =
    let few = lt-ltb (10 * v + (b - 48)) 0x1_0000_0000 (omega (arith, h, grows s (10 * v + (b - 48)))) in
    rw (digits_from, and_from _ _ (first b s p) few) (reads s (10 * v + (b - 48)) (others b s p) h)

-- The digit b goes on from v.
goes_on : ℕ → ℕ → Bool
goes_on v b = (leb 48 b && leb b 57) && ltb (10 * v + (b - 48)) 0x1_0000_0000

stops : (b : ℕ) (s : List ℕ) (v : ℕ) (t : Bool) → goes_on v b ≡ t → (t ≡ true → digits_from (10 * v + (b - 48)) s ≡ None) → digits_from v (b ∷ s) ≡ None
unfolding digits_from goes_on
stops b s v false e h = rw (digits_from, e)
stops b s v true e h = rw (digits_from, e) (h refl)

refuses : (s : List ℕ) (v : ℕ) → v < 0x1_0000_0000 → (Digits s → read_on v s < 0x1_0000_0000 → ⊥) → digits_from v s ≡ None
unfolding goes_on
refuses [] v l h = absurd (h refl l)
refuses (b ∷ s) v l h = stops b s v (goes_on v b) refl
    (λ e. let k = and_parts (leb 48 b && leb b 57) (ltb (10 * v + (b - 48)) 0x1_0000_0000) e in
    refuses s (10 * v + (b - 48)) (ltb-true _ _ k.1) (λ p. h (and_from _ _ k.0 p)))

no_digits : (s : List ℕ) → (Digits s → ⊥) → None ≡ decimal s
unfolding decimal
no_digits [] h = refl
no_digits (b ∷ s) h = sym (refuses (b ∷ s) 0 (omega arith) (λ p _. h p))

-- Of bytes, whether they are UTF-8.
pub no_text : {E : Type 0} (V : E → Type 0) (s : List ℕ) (r : Result (Bor (List ℕ)) E)
    → MatchResult r (λ t. (t.now ≡ s) × IsUtf8 s) (λ e. (IsUtf8 s → ⊥) × V e) → None ≡ result_ok r → None ≡ decimal s
no_text V s (Ok t) m q = cc
no_text V s (Err e) m q = no_digits s (λ p. m.0 (IsUtf8-from_ascii s (IsAscii-from_digits s (own.to s p))))

pub text_is : {E : Type 0} (V : E → Type 0) (s : List ℕ) (r : Result (Bor (List ℕ)) E)
    → MatchResult r (λ t. (t.now ≡ s) × IsUtf8 s) (λ e. (IsUtf8 s → ⊥) × V e) → {t : Bor (List ℕ)} → Some t ≡ result_ok r → t.now ≡ s
text_is V s (Ok u) m {t} q = let same : t ≡ u = cc in ap (λ (x : Bor (List ℕ)). x.now) same ∙ m.0
text_is V s (Err e) m q = cc

-- A text with a plus sign.
plus : (s : List ℕ) → get_or s 0 0 ≡ 43 → Digits s → ⊥
plus [] e p = omega arith
plus (b ∷ s) e p = omega (arith, e, leb-true 48 b (and_parts (leb 48 b) (leb b 57) (first b s p)).0)

pub plus_none : (s : List ℕ) {t : List ℕ} → t ≡ s → true ≡ eqb (get_or t 0 0) 43 → None ≡ decimal s
plus_none s e p = no_digits s (plus s (eqb-true _ _ (sym (rw e at p))))

-- A text without one.
decided : {E : Type 0} (s : List ℕ) (r : Result ℕ E) → OkIff r (Digits s × (0 < length s) × (read_on 0 s < 0x1_0000_0000)) (read_on 0 s)
    → result_ok r ≡ decimal s
unfolding decimal
decided [] (Ok x) h = absurd (omega (arith, h.0.1))
decided (b ∷ s) (Ok x) h = ap Some h.1 ∙ sym (reads (b ∷ s) 0 h.0.0 h.0.2)
decided [] (Err e) h = refl
decided (b ∷ s) (Err e) h = sym (refuses (b ∷ s) 0 (omega arith) (λ p l. h (p, omega arith, l)))

pub parsed : {E : Type 0} (s : List ℕ) {t : List ℕ} → t ≡ s → (r : Result ℕ E) → ParsesUnsigned 32 10 t r → false ≡ eqb (get_or t 0 0) 43
    → result_ok r ≡ decimal s
parsed s e r h n = decided s r (parse_plain own 32 s r (rw e at h) (eqb-false _ _ (sym (rw e at n))))
