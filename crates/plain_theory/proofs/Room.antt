-- Only a binding can need more words than there were: a pair that is dropped or taken apart never does. The heads of
-- its two cells are gone; a key that was sought is not sought again, so no cell of the
-- second row is counted twice.
use mathlib.Core.Bool.{Bool, true, false}
use mathlib.Core.List.{List, [], ◌∷◌, ◌++◌}
use mathlib.Core.Logic.{◌≢◌}
use mathlib.Core.Path.{◌≡◌, refl, sym, ◌∙◌}
use Prim.Native.Nat.{ℕ, ◌+◌, ◌*◌, ◌≤◌}
use native.Mathlib.Decide.{ℕ_discrete}
use native.Mathlib.Omega.{arith}
use lib.Dec.{eqb}
use Rattle.unification.specs.Ty.{Leaf-discrete, Kind, Record, Union, Ty, leaf, node, Var, Error, Row, ε, cell, row_len}
use Rattle.unification.specs.Unify.{find_key}
use Rattle.unification.specs.Calls.{Lacks, DistinctKeys}
use Rattle.unification.specs.Robinson.{Equation}
use Rattle.unification.proofs.Rows.{find_tail, find_under}
use Rattle.plain_theory.specs.Plain.{Binding, in?, In, Parts, parts, unlike, with_part, NamedAlike, named?, part, matched, rows, PlainStep, drops, fails}
use Rattle.plain_theory.specs.Plain.{splits, binds, bind, split, nodes, step, head_words, words, row_words, pair_words, sum, needs}
use Rattle.plain_theory.specs.Claims.{Clean}
use Rattle.std.specs.Prelude.{None, Option, Some}
use Rattle.std.proofs.lemmas.Bool.{eqb-true}

-- ---- A row without the cell that was found

unfoldable remove : ℕ → Row → Row
remove k ε = ε
remove k (cell m l t s) = elim (eqb k m) [ true ↦ s | false ↦ cell m l t (remove k s) ]

find_remove : (j k : ℕ) (s : Row) → j ≢ k → find_key j (remove k s) ≡ find_key j s
unfolding remove
find_remove j k ε n = refl
find_remove j k (cell m l t s) n = go (eqb k m) refl (find_remove j k s n)
  where
    go : (b : Bool) → eqb k m ≡ b → find_key j (remove k s) ≡ find_key j s → find_key j (remove k (cell m l t s)) ≡ find_key j (cell m l t s)
    go true q h = rw (q, remove) (sym (find_tail j m l t s (λ e. n (e ∙ sym (eqb-true k m q)))))
    go false q h = rw (q, remove) (find_under j m l t s (remove k s) h)

abbrev RemoveWords : Kind → ℕ → Row → Option (ℕ × Ty) → Type 0
RemoveWords kind k s None = Unit {0}
RemoveWords kind k s (Some u) = row_words s kind ≡ head_words kind + words u.1 + row_words (remove k s) kind

words_remove : (kind : Kind) (k : ℕ) (s : Row) → RemoveWords kind k s (find_key k s)
unfolding remove find_key row_words
words_remove kind k ε = tt
words_remove kind k (cell m l t s) = go (eqb k m) refl (find_key k s) refl (words_remove kind k s)
  where
    go : (b : Bool) → eqb k m ≡ b → (o : Option (ℕ × Ty)) → find_key k s ≡ o → RemoveWords kind k s o
        → RemoveWords kind k (cell m l t s) (find_key k (cell m l t s))
    go true q o e h =
        let gone : row_words (remove k (cell m l t s)) kind ≡ row_words s kind = rw (q, remove) in
        rw (q, find_key) (omega (arith, gone))
    go false q None e h = rw (q, find_key, e) tt
    go false q (Some u) e h =
        let kept : row_words (remove k (cell m l t s)) kind ≡ head_words kind + words t + row_words (remove k s) kind = rw (q, remove) in
        rw (q, find_key, e) (omega (arith, h, kept))

matched_remove : (kind : Kind) (k : ℕ) (r s : Row) → Lacks k r → matched kind r (remove k s) ≡ matched kind r s
unfolding matched
matched_remove kind k ε s h = refl
matched_remove kind k (cell m l t r) s h = rw (find_remove m k s (λ e. h.0 (sym e)), matched_remove kind k r s h.1)

-- ---- Parts

head_some : (kind : Kind) → 1 ≤ head_words kind
unfolding head_words
head_some Record = omega arith
head_some Union = omega arith

abbrev PartsRoom : Kind → Row → Row → Parts → Type 0
PartsRoom kind r s (parts qs) = sum pair_words qs ≤ 2 * (row_words r kind + row_words s kind)
PartsRoom kind r s unlike = Unit {0}

part_room : (kind : Kind) (m l : ℕ) (t : Ty) (r s : Row) (o : Option (ℕ × Ty)) (ps : Parts) → RemoveWords kind m s o
    → PartsRoom kind r (remove m s) ps → PartsRoom kind (cell m l t r) s (part kind l t o ps)
unfolding part with_part sum pair_words row_words
part_room kind m l t r s None ps e h = tt
part_room kind m l t r s (Some u) ps e h = go (named? kind l u.0) refl ps h
  where
    go : (d : Dec (NamedAlike kind l u.0)) → named? kind l u.0 ≡ d → (ps : Parts) → PartsRoom kind r (remove m s) ps
        → PartsRoom kind (cell m l t r) s (part kind l t (Some u) ps)
    go (yes i) q (parts qs) h = rw (q, part) (omega (arith, e, h, head_some kind))
    go (yes i) q unlike h = rw (q, part) tt
    go (no n) q ps h = rw (q, part) tt

matched_room : (kind : Kind) (r s : Row) → DistinctKeys r → PartsRoom kind r s (matched kind r s)
unfolding matched sum
matched_room kind ε s d = omega arith
matched_room kind (cell m l t r) s d =
    part_room kind m l t r s (find_key m s) (matched kind r s) (words_remove kind m s)
    (rw (matched_remove kind m r s d.0) at (matched_room kind r (remove m s) d.1))

rows_room : (kind : Kind) (r s : Row) → DistinctKeys r → PartsRoom kind r s (rows kind r s)
unfolding rows
rows_room kind r s d = go (ℕ_discrete (row_len r) (row_len s)) refl
  where
    go : (c : Dec (row_len r ≡ row_len s)) → ℕ_discrete (row_len r) (row_len s) ≡ c → PartsRoom kind r s (rows kind r s)
    go (yes p) q = rw (q, rows) (matched_room kind r s d)
    go (no n) q = rw (q, rows) tt

-- ---- Steps

abbrev StepRoom : Ty → Ty → PlainStep → Type 0
StepRoom a b drops = Unit {0}
StepRoom a b fails = Unit {0}
StepRoom a b (splits qs) = sum pair_words qs ≤ pair_words (record { left = a; right = b })
StepRoom a b (binds x t) = Unit {0}

split_room : (k : Kind) (r s : Row) (ps : Parts) → PartsRoom k r s ps → StepRoom (node k r) (node k s) (split ps)
unfolding split pair_words words
split_room k r s (parts qs) h = omega (arith, h)
split_room k r s unlike h = tt

bind_room : (a b : Ty) (x : ℕ) (t : Ty) → StepRoom a b (bind x t)
unfolding bind
bind_room a b x t = go (in? x t) refl
  where
    go : (d : Dec (In x t)) → in? x t ≡ d → StepRoom a b (bind x t)
    go (yes h) q = rw (q, bind) tt
    go (no n) q = rw (q, bind) tt

step_room : (a b : Ty) → Clean a → StepRoom a b (step a b)
unfolding step nodes
step_room (Var x) (Var y) c = go (ℕ_discrete x y) refl
  where
    go : (d : Dec (x ≡ y)) → ℕ_discrete x y ≡ d → StepRoom (Var x) (Var y) (step (Var x) (Var y))
    go (yes e) q = rw (q, step) tt
    go (no n) q = rw (q, step) tt
step_room (Var x) (leaf q) c = bind_room (Var x) (leaf q) x (leaf q)
step_room (Var x) (node k r) c = bind_room (Var x) (node k r) x (node k r)
step_room (Var x) Error c = bind_room (Var x) Error x Error
step_room (leaf p) (Var y) c = bind_room (leaf p) (Var y) y (leaf p)
step_room (node k r) (Var y) c = bind_room (node k r) (Var y) y (node k r)
step_room Error (Var y) c = bind_room Error (Var y) y Error
step_room (leaf p) (leaf q) c = go (Leaf-discrete ℕ_discrete p q) refl
  where
    go : (d : Dec (p ≡ q)) → Leaf-discrete ℕ_discrete p q ≡ d → StepRoom (leaf p) (leaf q) (step (leaf p) (leaf q))
    go (yes e) o = rw (o, step) tt
    go (no n) o = rw (o, step) tt
step_room (leaf p) (node k r) c = tt
step_room (leaf p) Error c = tt
step_room (node k r) (leaf q) c = tt
step_room (node Record r) (node Record s) c = split_room Record r s (rows Record r s) (rows_room Record r s c.0)
step_room (node Union r) (node Union s) c = split_room Union r s (rows Union r s) (rows_room Union r s c.0)
step_room (node Record r) (node Union s) c = tt
step_room (node Union r) (node Record s) c = tt
step_room (node k r) Error c = tt
step_room Error (leaf q) c = tt
step_room Error (node k r) c = tt
step_room Error Error c = tt

sum_append : (qs ps : List Equation) → sum pair_words (qs ++ ps) ≡ sum pair_words qs + sum pair_words ps
unfolding sum
sum_append [] ps = omega arith
sum_append (q ∷ qs) ps = omega (arith, sum_append qs ps)

-- The stages after a pair was dropped, taken apart.
pub drops_room : (p : Equation) (ps : List Equation) (bs : List Binding)
    → needs (record { pairs = ps; bindings = bs }) ≤ needs (record { pairs = p ∷ ps; bindings = bs })
unfolding needs sum
drops_room p ps bs = omega arith

pub splits_room : (p : Equation) (ps qs : List Equation) (bs : List Binding) → Clean p.left → step p.left p.right ≡ splits qs
    → needs (record { pairs = qs ++ ps; bindings = bs }) ≤ needs (record { pairs = p ∷ ps; bindings = bs })
unfolding needs sum
splits_room p ps qs bs c e =
    let h : sum pair_words qs ≤ pair_words (record { left = p.left; right = p.right }) = rw e at (step_room p.left p.right c) in
    omega (arith, h, sum_append qs ps)
