-- Rows whose keys are distinct are equal up to order exactly where a look-up by key agrees on both: at every key (unions,
-- by their ascending discriminants), or at the keys of one of them where they are equally long (records).
use mathlib.Core.Bool.{Bool, true, false}
use mathlib.Core.List.{List, [], ◌∷◌}
use mathlib.Core.Logic.{◌↔◌, ◌≢◌, ◌⊎◌, inl, inr, by_cases}
use mathlib.Core.Path.{◌≡◌, refl, sym, ◌∙◌, ap}
use Prim.Native.Nat.{ℕ, suc}
use native.Mathlib.Decide.{ℕ_discrete}
use native.Mathlib.Omega.{arith}
use lib.Dec.{eqb, ltb}
use Rattle.unification.specs.Ty.{Ty, Row, ε, cell, row_len, app, app_row}
use Rattle.unification.specs.Order.{SameTy, SameRow, Inserted, here, there}
use Rattle.unification.specs.Unify.{find_key, insert_once, with_keys, discriminants}
use Rattle.unification.specs.Calls.{Lacks, DistinctKeys}
use Rattle.std.specs.Prelude.{None, Option, Some}
use Rattle.std.proofs.lemmas.Bool.{eqb-true, eqb-false}

-- ---- Look-up
find_head : (k l : ℕ) (t : Ty) (r : Row) → find_key k (cell k l t r) ≡ Some (l, t)
unfolding find_key
find_head k l t r = go (eqb k k) refl
  where
    go : (b : Bool) → eqb k k ≡ b → find_key k (cell k l t r) ≡ Some (l, t)
    go true q = rw (q, find_key)
    go false q = absurd (eqb-false k k q refl)

pub find_tail : (k m l : ℕ) (t : Ty) (r : Row) → k ≢ m → find_key k (cell m l t r) ≡ find_key k r
unfolding find_key
find_tail k m l t r n = go (eqb k m) refl
  where
    go : (b : Bool) → eqb k m ≡ b → find_key k (cell m l t r) ≡ find_key k r
    go true q = absurd (n (eqb-true k m q))
    go false q = rw (q, find_key)

find_nil : (k : ℕ) → find_key k ε ≡ None
unfolding find_key
find_nil k = refl

find_lacks : (k : ℕ) (r : Row) → Lacks k r → find_key k r ≡ None
find_lacks k ε h = find_nil k
find_lacks k (cell m l t r) h = find_tail k m l t r h.0 ∙ find_lacks k r h.1

-- Under a cell more, two look-ups that agree still do.
pub find_under : (j m n : ℕ) (u : Ty) (r s : Row) → find_key j s ≡ find_key j r → find_key j (cell m n u s) ≡ find_key j (cell m n u r)
find_under j m n u r s h = by_cases (ℕ_discrete j m)
    (λ e. rw e (find_head m n u s ∙ sym (find_head m n u r)))
    (λ e. find_tail j m n u s e ∙ h ∙ sym (find_tail j m n u r e))

-- ---- What an insertion changes
inserted_other : {k l : ℕ} {t : Ty} {r s : Row} (j : ℕ) → j ≢ k → Inserted k l t r s → find_key j s ≡ find_key j r
inserted_other {k} {l} {t} {r} j n here = find_tail j k l t r n
inserted_other j n (there {m} {n = l} {u} {r} {s} i) = find_under j m l u r s (inserted_other j n i)

inserted_len : {k l : ℕ} {t : Ty} {r s : Row} → Inserted k l t r s → row_len s ≡ suc (row_len r)
unfolding row_len
inserted_len here = refl
inserted_len (there i) = ap suc (inserted_len i)

inserted_lacks : {k l : ℕ} {t : Ty} {r s : Row} (j : ℕ) → Inserted k l t r s → Lacks j s → (j ≢ k) × Lacks j r
inserted_lacks j here h = h
inserted_lacks j (there i) h = let x = inserted_lacks j i h.1 in (x.0, (h.0, x.1))

inserted_distinct : {k l : ℕ} {t : Ty} {r s : Row} → Inserted k l t r s → DistinctKeys s → Lacks k r × DistinctKeys r
inserted_distinct here h = h
inserted_distinct (there i) h =
    let x = inserted_distinct i h.1 in
    let y = inserted_lacks _ i h.0 in
    (((λ e. y.0 (sym e)), x.0), (y.1, x.1))

inserted_found : {k l : ℕ} {t : Ty} {r s : Row} → Inserted k l t r s → DistinctKeys s → find_key k s ≡ Some (l, t)
inserted_found {k} {l} {t} {r} here h = find_head k l t r
inserted_found {k} (there {m} {n} {u} {s} i) h =
    find_tail k m n u s (λ q. (inserted_lacks m i h.0).0 (sym q)) ∙ inserted_found i h.1

-- ---- What two look-ups agree on: the label, and the type up to order
abbrev pub Both : Option (ℕ × Ty) → Option (ℕ × Ty) → Type 0
Both None None = Unit {0}
Both None (Some q) = ⊥
Both (Some p) None = ⊥
Both (Some p) (Some q) = (p.0 ≡ q.0) × SameTy p.1 q.1

abbrev pub Agree : Row → Row → Type 0
Agree r s = (k : ℕ) → Both (find_key k r) (find_key k s)

-- A cell that a look-up agrees with has its partner there.
both_pick : (k l : ℕ) (t : Ty) (s : Row) → Both (Some (l, t)) (find_key k s) → (t' : Ty) × (s' : Row) × SameTy t t' × Inserted k l t' s' s
unfolding find_key
both_pick k l t ε b = absurd b
both_pick k l t (cell m n u s) b = go (eqb k m) refl (λ b'. both_pick k l t s b')
  where
    go : (c : Bool) → eqb k m ≡ c → (Both (Some (l, t)) (find_key k s) → (t' : Ty) × (s' : Row) × SameTy t t' × Inserted k l t' s' s)
        → (t' : Ty) × (s' : Row) × SameTy t t' × Inserted k l t' s' (cell m n u s)
    go true q ih =
        let c : (l ≡ n) × SameTy t u = rw (q, find_key) at b in
        (u, s, c.1, rw (eqb-true k m q, c.0) here)
    go false q ih = let x = ih (rw (q, find_key) at b) in (x.0, cell m n u x.1, x.2, there x.3)

pub agree_same : (r s : Row) → DistinctKeys r → DistinctKeys s → Agree r s → SameRow r s
agree_same ε ε d e a = tt
agree_same ε (cell k l t s) d e a = absurd (rw (find_nil, find_head k l t s) at (a k))
agree_same (cell k l t r) s d e a =
    let x = both_pick k l t s (rw (find_head k l t r) at (a k)) in
    let c = inserted_distinct x.3 e in (
      x.0,
      x.1,
      x.2,
      agree_same r x.1 d.1 c.1 (λ j. by_cases (ℕ_discrete j k)
          (λ q. rw (q, find_lacks k r d.0, find_lacks k x.1 c.0) tt)
          (λ q. rw (find_tail j k l t r q, inserted_other j q x.3) at (a j))),
      x.3,
    )

pub same_agree : (r s : Row) → DistinctKeys r → DistinctKeys s → SameRow r s → Agree r s
same_agree ε ε d e h k = rw find_nil tt
same_agree ε (cell m l t s) d e h k = absurd h
same_agree (cell m l t r) s d e h k = by_cases (ℕ_discrete k m)
    (λ q. rw (q, find_head m l t r, inserted_found h.4 e) (refl, h.2))
    (λ q. rw (find_tail k m l t r q, inserted_other k q h.4) (same_agree r h.1 d.1 (inserted_distinct h.4 e).1 h.3 k))

-- ---- By the cells of one row: records

-- Each cell of the first row agrees with the look-up of its key in the second.
abbrev pub Match : Row → Row → Type 0
Match ε s = Unit {0}
Match (cell k l t r) s = Both (Some (l, t)) (find_key k s) × Match r s

-- A row without the key does not notice its cell.
match_less : {k l : ℕ} {t : Ty} {s' s : Row} → Inserted k l t s' s → (r : Row) → Lacks k r → Match r s ↔ Match r s'
match_less i ε h = (λ m. tt, λ m. tt)
match_less {k} i (cell j n u r) h =
    let q = inserted_other j (λ e. h.0 (sym e)) i in
    let ih = match_less i r h.1 in
    (λ m. (rw q at m.0, ih.0 m.1), λ m. (rw q m.0, ih.1 m.1))

pub match_same : (r s : Row) → DistinctKeys r → row_len r ≡ row_len s → Match r s → SameRow r s
unfolding row_len
match_same ε ε d e m = tt
match_same ε (cell k l t s) d e m = absurd (omega arith)
match_same (cell k l t r) s d e m =
    let x = both_pick k l t s m.0 in
    (x.0, x.1, x.2, match_same r x.1 d.1 (omega (arith, inserted_len x.3)) ((match_less x.3 r d.0).0 m.1), x.3)

pub same_match : (r s : Row) → DistinctKeys r → DistinctKeys s → SameRow r s → Match r s
same_match ε s d e h = tt
same_match (cell k l t r) s d e h =
    (rw (inserted_found h.4 e) (refl, h.2), (match_less h.4 r d.0).1 (same_match r h.1 d.1 (inserted_distinct h.4 e).1 h.3))

pub same_len : (r s : Row) → SameRow r s → row_len r ≡ row_len s
unfolding row_len
same_len ε ε h = refl
same_len ε (cell k l t s) h = absurd h
same_len (cell k l t r) s h = omega (arith, same_len r h.1 h.3, inserted_len h.4)

-- ---- By the discriminants of both rows: unions
abbrev pub AgreeAt : List ℕ → Row → Row → Type 0
AgreeAt [] r s = Unit {0}
AgreeAt (k ∷ ks) r s = Both (find_key k r) (find_key k s) × AgreeAt ks r s

abbrev Mem : ℕ → List ℕ → Type 0
Mem k [] = ⊥
Mem k (m ∷ ms) = (k ≡ m) ⊎ Mem k ms

insert_new : (k : ℕ) (ms : List ℕ) → Mem k (insert_once k ms)
unfolding insert_once
insert_new k [] = inl refl
insert_new k (m ∷ ms) = go (eqb k m) refl (ltb k m) refl (insert_new k ms)
  where
    go : (b : Bool) → eqb k m ≡ b → (c : Bool) → ltb k m ≡ c → Mem k (insert_once k ms) → Mem k (insert_once k (m ∷ ms))
    go true q c p h = rw (q, insert_once) (inl (eqb-true k m q))
    go false q true p h = rw (q, p, insert_once) (inl refl)
    go false q false p h = rw (q, p, insert_once) (inr h)

insert_old : (j k : ℕ) (ms : List ℕ) → Mem j ms → Mem j (insert_once k ms)
unfolding insert_once
insert_old j k [] h = absurd h
insert_old j k (m ∷ ms) h = go (eqb k m) refl (ltb k m) refl h (insert_old j k ms)
  where
    go : (b : Bool) → eqb k m ≡ b → (c : Bool) → ltb k m ≡ c → Mem j (m ∷ ms) → (Mem j ms → Mem j (insert_once k ms)) → Mem j (insert_once k (m ∷ ms))
    go true q c p h' ih = rw (q, insert_once) h'
    go false q true p h' ih = rw (q, p, insert_once) (inr h')
    go false q false p (inl e) ih = rw (q, p, insert_once) (inl e)
    go false q false p (inr i) ih = rw (q, p, insert_once) (inr (ih i))

keys_old : (j : ℕ) (r : Row) (ks : List ℕ) → Mem j ks → Mem j (with_keys r ks)
unfolding with_keys
keys_old j ε ks h = h
keys_old j (cell k l t r) ks h = insert_old j k (with_keys r ks) (keys_old j r ks h)

-- A key is listed, or nothing is found by it.
keys_all : (j : ℕ) (r : Row) (ks : List ℕ) → Mem j (with_keys r ks) ⊎ (find_key j r ≡ None)
unfolding with_keys
keys_all j ε ks = inr (find_nil j)
keys_all j (cell k l t r) ks = go (ℕ_discrete j k) (keys_all j r ks)
  where
    go : Dec (j ≡ k) → Mem j (with_keys r ks) ⊎ (find_key j r ≡ None) → Mem j (with_keys (cell k l t r) ks) ⊎ (find_key j (cell k l t r) ≡ None)
    go (yes e) h = inl (rw e (insert_new k (with_keys r ks)))
    go (no n) (inl m) = inl (insert_old j k (with_keys r ks) m)
    go (no n) (inr q) = inr (find_tail j k l t r n ∙ q)

agree_at : (ks : List ℕ) (r s : Row) → AgreeAt ks r s → (k : ℕ) → Mem k ks → Both (find_key k r) (find_key k s)
agree_at [] r s h k m = absurd m
agree_at (j ∷ ks) r s h k (inl e) = rw e h.0
agree_at (j ∷ ks) r s h k (inr m) = agree_at ks r s h.1 k m

agree_only : (ks : List ℕ) (r s : Row) → Agree r s → AgreeAt ks r s
agree_only [] r s h = tt
agree_only (k ∷ ks) r s h = (h k, agree_only ks r s h)

pub agree_discriminants : (r s : Row) → AgreeAt (discriminants r s) r s ↔ Agree r s
unfolding discriminants
agree_discriminants r s = (λ h k. go h k (keys_all k r (with_keys s [])) (keys_all k s []), agree_only (discriminants r s) r s)
  where
    go : AgreeAt (discriminants r s) r s → (k : ℕ) → Mem k (discriminants r s) ⊎ (find_key k r ≡ None) → Mem k (with_keys s []) ⊎ (find_key k s ≡ None)
        → Both (find_key k r) (find_key k s)
    go h k (inl m) q = agree_at (discriminants r s) r s h k m
    go h k (inr p) (inl m) = agree_at (discriminants r s) r s h k (keys_old k r (with_keys s []) m)
    go h k (inr p) (inr q) = rw (p, q) tt

-- ---- Under a substitution
abbrev pub app_cell : (ℕ → Ty) → Option (ℕ × Ty) → Option (ℕ × Ty)
app_cell σ None = None
app_cell σ (Some p) = Some (p.0, app σ p.1)

pub find_app : (σ : ℕ → Ty) (k : ℕ) (r : Row) → find_key k (app_row σ r) ≡ app_cell σ (find_key k r)
unfolding find_key app_row
find_app σ k ε = refl
find_app σ k (cell m l t r) = go (eqb k m) refl (find_app σ k r)
  where
    go : (b : Bool) → eqb k m ≡ b → find_key k (app_row σ r) ≡ app_cell σ (find_key k r)
        → find_key k (app_row σ (cell m l t r)) ≡ app_cell σ (find_key k (cell m l t r))
    go true q h = rw (q, find_key)
    go false q h = rw (q, find_key) h

lacks_app : (σ : ℕ → Ty) (k : ℕ) (r : Row) → Lacks k r → Lacks k (app_row σ r)
unfolding app_row
lacks_app σ k ε h = tt
lacks_app σ k (cell m l t r) h = (h.0, lacks_app σ k r h.1)

pub distinct_app : (σ : ℕ → Ty) (r : Row) → DistinctKeys r → DistinctKeys (app_row σ r)
unfolding app_row
distinct_app σ ε h = tt
distinct_app σ (cell k l t r) h = (lacks_app σ k r h.0, distinct_app σ r h.1)

pub row_len_app : (σ : ℕ → Ty) (r : Row) → row_len (app_row σ r) ≡ row_len r
unfolding row_len app_row
row_len_app σ ε = refl
row_len_app σ (cell k l t r) = ap suc (row_len_app σ r)

keys_app : (σ : ℕ → Ty) (r : Row) (ks : List ℕ) → with_keys (app_row σ r) ks ≡ with_keys r ks
unfolding with_keys app_row
keys_app σ ε ks = refl
keys_app σ (cell k l t r) ks = ap (insert_once k) (keys_app σ r ks)

pub discriminants_app : (σ : ℕ → Ty) (r s : Row) → discriminants (app_row σ r) (app_row σ s) ≡ discriminants r s
unfolding discriminants
discriminants_app σ r s = rw (keys_app σ s [], keys_app σ r)
