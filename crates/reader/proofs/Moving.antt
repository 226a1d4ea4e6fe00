-- What a reader's numbers say of its line. Past the end all numbers are 0, so a place that stays there finds what one
-- that moves on would find.
use mathlib.Core.Path.{◌≡◌, refl, sym, ap, ◌∙◌}
use Prim.Native.Nat.{ℕ, ◌+◌, ◌≤◌}
use mathlib.Core.List.{List}
use mathlib.Core.Bool.{Bool, true, false}
use lib.Dec.{ltb}
use native.Mathlib.Omega.{arith}
use lib.ListN.{length}
use borrow.Author.Tests.{ltb-false}
use Rattle.frames.specs.Promises.{byte_w, half_w, full_w}
use Rattle.frames.proofs.Numbers.{byte_past, half_past, full_past}
use Rattle.reader.specs.Taking.{past, Passes, TakesByte, TakesHalf, TakesFull, ReadsLimits, ReadsField, ReadsAlternative, ReadsPredicate}
use Rattle.reader.specs.declared.Reader.{Reader}

module _ (line : List ℕ) where
  -- The place i finds what stands at n: it is n, or both are past the end.
  data Finds (i n : ℕ) : Type 0 where
    there : i ≡ n → Finds i n
    beyond : length line ≤ i → length line ≤ n → Finds i n

  -- a place moved on, to where it would stand in an endless line
  after : {i j n m : ℕ} (size : ℕ) → j ≡ past line i size → n + size ≡ m → Finds i n → Finds j m
  after {i} {j} {n} {m} size p e f = go (ltb i (length line)) refl f
    where
      go : (b : Bool) → ltb i (length line) ≡ b → Finds i n → Finds j m
      go true l (there h) = there (rw l at p ∙ (ap (λ k. k + size) h ∙ e))
      go true l (beyond h k) = beyond (omega (arith, rw l at p, h)) (omega (arith, k, e))
      go false l (there h) = beyond (omega (arith, rw l at p, ltb-false i (length line) l)) (omega (arith, ltb-false i (length line) l, h, e))
      go false l (beyond h k) = beyond (omega (arith, rw l at p, h)) (omega (arith, k, e))

  at_byte : {i n : ℕ} → Finds i n → byte_w line i ≡ byte_w line n
  at_byte (there h) = ap (byte_w line) h
  at_byte (beyond h k) = byte_past line _ h ∙ sym (byte_past line _ k)

  at_half : {i n : ℕ} → Finds i n → half_w line i ≡ half_w line n
  at_half (there h) = ap (half_w line) h
  at_half (beyond h k) = half_past line _ h ∙ sym (half_past line _ k)

  at_full : {i n : ℕ} → Finds i n → full_w line i ≡ full_w line n
  at_full (there h) = ap (full_w line) h
  at_full (beyond h k) = full_past line _ h ∙ sym (full_past line _ k)

  -- the reader reads this line, and finds what stands at n
  record On (n : ℕ) (r : Reader) : Type 0 where
    same : r.line.now ≡ line
    finds : Finds r.at n

  pass : {n m : ℕ} {r r' : Reader} (size : ℕ) → n + size ≡ m → On n r → Passes r size r' → On m r'
  pass {r = r} {r' = r'} size e o p =
      record { same = ap (λ l. l.now) p.0 ∙ o.same; finds = after size (p.1 ∙ ap (λ s. past s r.at size) o.same) e o.finds }

  says_byte : {n : ℕ} {r : Reader} → On n r → byte_w r.line.now r.at ≡ byte_w line n
  says_byte {r = r} o = ap (λ s. byte_w s r.at) o.same ∙ at_byte o.finds

  says_half : {n : ℕ} {r : Reader} → On n r → half_w r.line.now r.at ≡ half_w line n
  says_half {r = r} o = ap (λ s. half_w s r.at) o.same ∙ at_half o.finds

  says_full : {n : ℕ} {r : Reader} → On n r → full_w r.line.now r.at ≡ full_w line n
  says_full {r = r} o = ap (λ s. full_w s r.at) o.same ∙ at_full o.finds

module _ {r : Reader} where
  start : On r.line.now r.at r
  start = record { same = refl; finds = there refl }

  pub limits_read : {r₁ r₂ : Reader} {a b : ℕ} → TakesByte r r₁ a → TakesHalf r₁ r₂ b → ReadsLimits r.line.now r.at (record { distance = a; term = b })
  limits_read e f = record { distance = e.0; term = f.0 ∙ says_half _ (pass _ 1 refl start e.1) }

  pub field_read : {r₁ r₂ : Reader} {a b : ℕ} → TakesHalf r r₁ a → TakesHalf r₁ r₂ b → ReadsField r.line.now r.at (record { name = a; ty = b })
  field_read e f = record { name = e.0; ty = f.0 ∙ says_half _ (pass _ 2 refl start e.2); small = (e.1, f.1) }

  pub alternative_read : {r₁ r₂ r₃ : Reader} {a b c : ℕ} → TakesHalf r r₁ a → TakesFull r₁ r₂ b → TakesHalf r₂ r₃ c
      → ReadsAlternative r.line.now r.at (record { name = a; discriminant = b; ty = c })
  alternative_read e f g =
      let o = pass _ 2 refl start e.2 in
      record { name = e.0; discriminant = f.0 ∙ says_full _ o; ty = g.0 ∙ says_half _ (pass _ 4 (omega arith) o f.1); small = (e.1, g.1) }

  pub predicate_read : {r₁ r₂ r₃ r₄ : Reader} {a b c d : ℕ} → TakesHalf r r₁ a → TakesHalf r₁ r₂ b → TakesByte r₂ r₃ c → TakesHalf r₃ r₄ d
      → ReadsPredicate r.line.now r.at (record { name = a; key = b; flag = c; value = d })
  predicate_read e f g h =
      let o = pass _ 2 refl start e.2 in
      let p : On r.line.now (r.at + 4) _ = pass _ 2 (omega arith) o f.2 in
      record { name = e.0; key = f.0 ∙ says_half _ o; flag = g.0 ∙ says_byte _ p; value = h.0 ∙ says_half _ (pass _ 1 (omega arith) p g.1) }
