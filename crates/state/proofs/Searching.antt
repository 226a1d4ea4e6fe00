-- A search over the numbers of a region, the newest first: what `find` and `any` give over a range in reverse, and what
-- loops give that test no read.
use mathlib.Core.Bool.{Bool, true, false, ◌||◌, true≢false}
use mathlib.Core.List.{List, [], ◌∷◌}
use mathlib.Core.Path.{◌≡◌, refl, sym, ◌∙◌, ap}
use native.Mathlib.Omega.{arith}
use Prim.Native.Nat.{ℕ, zero, suc, ◌+◌, ◌-◌, ◌/◌, ◌<◌}
use lib.ListN.{length, get_or}
use borrow.Author.Tests.{eq-eqb, ne_eqb, eqb-false}
use Rattle.std.specs.declared.ops.Range.{Range}
use Rattle.std.specs.declared.iter.Rev.{Rev}
use Rattle.std.specs.Iterator.{AlwaysYields}
use Rattle.std.specs.Iterator.Adapters.{rev_source, rev_steps}
use Rattle.std.specs.List.{AllWithin, HoldsAt}
use Rattle.std.specs.Option.{MatchOption}
use Rattle.std.specs.Bool.{MatchBool}
use Rattle.std.proofs.lemmas.Iterator.{YieldsList}
use Rattle.work.specs.Layout.{ENV}
use Rattle.meaning.specs.Check.{Entry, lookup_in, is_in}
use Rattle.state.specs.Words.{entry_w, env_of, known_as, numbers_of, symbols_of}
use Rattle.std.specs.Prelude.{None, Option, Some, eqb}

abbrev pub backs : Range ℕ → Option ℕ → Range ℕ → Type 0
backs s r t = (t.start ≡ s.start) × MatchOption r ((s.end - s.start ≡ 0) × (t.end ≡ s.end))
    (λ x. (0 < s.end - s.start) × (x ≡ t.end) × (s.end ≡ t.end + 1))

module _ (from : ℕ) (w : List ℕ) where
  gives : (n : ℕ) (s : Rev (Range ℕ)) → (rev_source s).start ≡ 0 → (rev_source s).end ≡ n
      → AlwaysYields (rev_steps backs) (λ i. get_or w (from + i) 0) s (numbers_of from w n)
  unfolding numbers_of
  gives zero s z e = λ x j p. omega (arith, z, e, p.1.0)
  gives (suc n) s z e = (
    (λ j p. omega (arith, z, e, p.1.0)),
    λ x j p.
        let here : x ≡ n = omega (arith, e, p.1.1, p.1.2) in
        (ap (λ i. get_or w (from + i) 0) here, gives n j (p.0 ∙ z) (omega (arith, e, p.1.2))),
  )

  pub newest : (n : ℕ) {s : Rev (Range ℕ)} → rev_source s ≡ record { start = 0; end = n }
      → YieldsList (rev_steps backs) (λ i. get_or w (from + i) 0) s (numbers_of from w n)
  newest n {s} e = record { runs = gives n s (ap (λ (r : Range ℕ). r.start) e) (ap (λ (r : Range ℕ). r.end) e) }

-- ---- `any`
module _ (x : ℕ) where
  passed : (b : Bool) {c : Bool} → true ≡ c → true ≡ (elim b [ true ↦ true | false ↦ c ])
  passed true e = refl
  passed false e = e

  there : (all : List ℕ) (k : ℕ) → k < length all → HoldsAt (λ y. y ≡ x) all k → true ≡ is_in x all
  unfolding is_in
  there [] k l h = absurd (omega arith)
  there (y ∷ ys) zero l h = rw (eq-eqb y x (h 0), is_in)
  there (y ∷ ys) (suc k) l h = passed (eqb y x) (there ys k (omega arith) h)

  nowhere : (all : List ℕ) → AllWithin (λ y. ¬ (y ≡ x)) all 0 (length all) → false ≡ is_in x all
  unfolding is_in
  nowhere [] h = refl
  nowhere (y ∷ ys) h = rw (ne_eqb y x (h 0 0 (omega arith) (omega arith)), is_in)
      (nowhere ys (λ k d a b. h (suc k) d (omega arith) (omega arith)))

  pub any_is : (all : List ℕ) (b : Bool)
      → MatchBool b ((k : ℕ) × (k < length all) × HoldsAt (λ y. y ≡ x) all k) (AllWithin (λ y. ¬ (y ≡ x)) all 0 (length all))
      → b ≡ is_in x all
  any_is all true h = there all h.0 h.1 h.2
  any_is all false h = nowhere all h

-- One number more, and whether x is one of them.
either : (b c : Bool) → (b || c) ≡ (elim c [ true ↦ true | false ↦ b ])
either true true = refl
either true false = refl
either false true = refl
either false false = refl

pub any_more : (from : ℕ) (w : List ℕ) (x n : ℕ) {b : Bool} → b ≡ is_in x (numbers_of from w n)
    → (b || eqb (get_or w (from + n) 0) x) ≡ is_in x (numbers_of from w (n + 1))
unfolding is_in numbers_of
any_more from w x n {b} q = let e : n + 1 ≡ suc n = omega arith in rw (e, q) (either (is_in x (numbers_of from w n)) (eqb (get_or w (from + n) 0) x))

pub symbols_more : (w : List ℕ) (x from n : ℕ) {b : Bool} → b ≡ is_in x (symbols_of w from n)
    → (b || eqb (get_or w (ENV + from + n) 0 / 262144) x) ≡ is_in x (symbols_of w from (n + 1))
unfolding is_in symbols_of
symbols_more w x from n {b} q =
    let e : n + 1 ≡ suc n = omega arith in rw (e, q) (either (is_in x (symbols_of w from n)) (eqb (get_or w (ENV + from + n) 0 / 262144) x))

-- ---- `find`
module _ (w : List ℕ) (symbol : ℕ) where
  abbrev Its : ℕ → Type 0
  Its e = e / 262144 ≡ symbol

  abbrev Not : ℕ → Type 0
  Not e = ¬ (e / 262144 ≡ symbol)

  unknown : (n : ℕ) → AllWithin Not (numbers_of ENV w n) 0 (length (numbers_of ENV w n)) → None ≡ lookup_in (env_of w n) symbol
  unfolding numbers_of env_of lookup_in
  unknown zero h = refl
  unknown (suc n) h = rw (ne_eqb (get_or w (ENV + n) 0 / 262144) symbol (h 0 0 (omega arith) (omega arith)), lookup_in)
      (unknown n (λ k d a b. h (suc k) d (omega arith) (omega arith)))

  known : (n e i : ℕ) → Its e → i < length (numbers_of ENV w n) → HoldsAt (λ y. y ≡ e) (numbers_of ENV w n) i
      → AllWithin Not (numbers_of ENV w n) 0 i → Some (entry_w e) ≡ lookup_in (env_of w n) symbol
  unfolding numbers_of env_of lookup_in
  known zero e i q l h none = absurd (omega arith)
  known (suc n) e zero q l h none =
      let here : get_or w (ENV + n) 0 ≡ e = h 0 in
      let its : get_or w (ENV + n) 0 / 262144 ≡ symbol = ap (λ (y : ℕ). y / 262144) here ∙ q in
      rw (eq-eqb (get_or w (ENV + n) 0 / 262144) symbol its, lookup_in) (ap {B = Option Entry} (λ y. Some (entry_w y)) (sym here))
  known (suc n) e (suc i) q l h none = rw (ne_eqb (get_or w (ENV + n) 0 / 262144) symbol (none 0 0 (omega arith) (omega arith)), lookup_in)
      (known n e i q (omega arith) h (λ k d a b. none (suc k) d (omega arith) (omega arith)))

  pub find_is : (n : ℕ) {all : List ℕ} → all ≡ numbers_of ENV w n → (r : Option ℕ)
      → MatchOption r (AllWithin Not all 0 (length all))
      (λ e. Its e × (i : ℕ) × (i < length all) × HoldsAt (λ y. y ≡ e) all i × AllWithin Not all 0 i)
      → known_as r ≡ lookup_in (env_of w n) symbol
  find_is n q None h = unknown n (rw q at h)
  find_is n q (Some e) h = known n e h.1 h.0 (rw q at h.2) (rw q at h.3) (rw q at h.4)

  -- ---- One entry more, which fits or does not
  pub fits : (n : ℕ) → Its (get_or w (ENV + n) 0) → lookup_in (env_of w (n + 1)) symbol ≡ Some (entry_w (get_or w (ENV + n) 0))
  unfolding env_of lookup_in
  fits n q = let e : n + 1 ≡ suc n = omega arith in rw (e, env_of, eq-eqb (get_or w (ENV + n) 0 / 262144) symbol q, lookup_in) refl

  pub passes : (n : ℕ) → Not (get_or w (ENV + n) 0) → lookup_in (env_of w (n + 1)) symbol ≡ lookup_in (env_of w n) symbol
  unfolding env_of lookup_in
  passes n q = let e : n + 1 ≡ suc n = omega arith in rw (e, env_of, ne_eqb (get_or w (ENV + n) 0 / 262144) symbol q, lookup_in) refl

  -- none of a block, so the search begins before it
  pub block_passes : (from k : ℕ) → is_in symbol (symbols_of w from k) ≡ false
      → lookup_in (env_of w (from + k)) symbol ≡ lookup_in (env_of w from) symbol
  unfolding is_in symbols_of
  block_passes from zero q = let e : from + 0 ≡ from = omega arith in rw e refl
  block_passes from (suc k) q = go (eqb (get_or w (ENV + from + k) 0 / 262144) symbol) refl q (block_passes from k)
    where
      go : (b : Bool) → eqb (get_or w (ENV + from + k) 0 / 262144) symbol ≡ b
          → (elim b [ true ↦ true | false ↦ is_in symbol (symbols_of w from k) ]) ≡ false
          → (is_in symbol (symbols_of w from k) ≡ false → lookup_in (env_of w (from + k)) symbol ≡ lookup_in (env_of w from) symbol)
          → lookup_in (env_of w (from + suc k)) symbol ≡ lookup_in (env_of w from) symbol
      go true p h rest = absurd (true≢false h)
      go false p h rest =
          let e : from + suc k ≡ from + k + 1 = omega arith in
          let there : ENV + from + k ≡ ENV + (from + k) = omega arith in
          rw e (passes (from + k) (eqb-false _ _ (rw there at p)) ∙ rest h)

  -- none before the first
  pub nothing : {n : ℕ} → n ≡ 0 → lookup_in (env_of w n) symbol ≡ None
  unfolding env_of lookup_in
  nothing e = rw e refl
