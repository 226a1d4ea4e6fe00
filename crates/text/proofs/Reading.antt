-- The later bytes of a sequence, read one by one: what is known after k of them.
use Rattle.std.proofs.Common.{◌≡◌, refl, ℕ, ◌+◌, ◌*◌, ◌%◌, ◌^◌, ◌<◌, List, [], ◌∷◌, ◌++◌, length, get_or, take, add-one, arith}
use Rattle.std.proofs.Math.Nat.{pow-suc}
use Rattle.std.proofs.Math.Seq.{take-suc}
use Rattle.text.specs.Star.{Every}
use Rattle.text.specs.Rule.{value, Later}

each_snoc : (P : ℕ → Type 0) (t : List ℕ) (x : ℕ) → Every P t → P x → Every P (t ++ (x ∷ []))
each_snoc P [] x e p = (p, tt)
each_snoc P (y ∷ t) x e p = (e.0, each_snoc P t x e.1 p)

value_snoc : (v : ℕ) (t : List ℕ) (x : ℕ) → value v (t ++ (x ∷ [])) ≡ value v t * 64 + x % 64
unfolding value
value_snoc v [] x = refl
value_snoc v (y ∷ t) x = value_snoc (v * 64 + y % 64) t x

-- k later bytes of t were read after v, and gave w
pub record Reading (v : ℕ) (t : List ℕ) (k w : ℕ) : Type 0 where
  pub is : w ≡ value v (take k t)
  pub later : Every Later (take k t)
  pub small : w < 256 * 64 ^ k

pub reading_none : (v : ℕ) (t : List ℕ) → v < 256 → Reading v t 0 v
unfolding value
reading_none v t h = record { is = refl; later = tt; small = omega arith }

module _ {v : ℕ} {t : List ℕ} {k w : ℕ} (r : Reading v t k w) where
  pub reading_more : k < length t → Later (get_or t k 0) → Reading v t (k + 1) (w * 64 + get_or t k 0 % 64)
  reading_more h l =
      rw (add-one k)
      (record {
        is = rw (take-suc t k 0, value_snoc v (take k t) (get_or t k 0), ← r.is);
        later = rw (take-suc t k 0) (each_snoc Later (take k t) (get_or t k 0) r.later l);
        small = rw (pow-suc 64 k) (omega (arith, r.small));
      })
