-- The laws of Sequel.antt for what the code gives back: a type with the visits left, the visits left, or that they ran
-- out.
use mathlib.Core.List.{List}
use mathlib.Core.Path.{◌≡◌, refl, sym, ap, ◌∙◌}
use Rattle.std.proofs.lemmas.Option.{some_pair_parts}
use native.Mathlib.Omega.{arith}
use Prim.Native.Nat.{ℕ}
use Rattle.unification.specs.Ty as Tree
use Rattle.unification.proofs.Tests.{clash}
use Rattle.cells.specs.declared.Ty.{Ty}
use Rattle.cells.specs.Stands.{Rows, tree, Ok}
use Rattle.format.specs.File.{Described}
use Rattle.meaning.specs.Check.{Checker, Step, goes, Does, and_then}
use Rattle.meaning.specs.Grades.{Ready}
use Rattle.meaning.proofs.Meets.{Made, Went, Meets, made_side}
use Rattle.meaning.proofs.Steps.{IsSide}
use Rattle.cells.specs.Inferred.{More}
use Rattle.state.specs.Lines.{Told}
use Rattle.state.specs.Runs.{Runs, Grew}
use Rattle.steps.specs.Ends.{StepGives, IsTyped, typed, done, silent, numbered, Gone, StepEnds, went, spent}
use Rattle.steps.specs.Loads.{Load, both, FitsIn, Begins}
use Rattle.steps.specs.Promises.{Fine, only_w, typed_after}
use Rattle.cells.proofs.Frame.{tree_more}
use Rattle.steps.proofs.Growing.{ok_kept}
use Rattle.steps.proofs.Sequel.{then_ends, stop_ends, ends_here, gone_as}
use Rattle.std.specs.Prelude.{None, Option, Some, ℕ}

-- ---- What comes back at once
pub type_here : {f w ou : List ℕ} {T : Rows} {d : Described} {n m left : ℕ} {c : Checker} (t : Ty) → Runs f w T d c → Told d w ou c 0
    → c.state.left ≡ left → Ok w t → StepEnds f w ou w ou T d n m (typed w (Some (t, left))) (goes (tree T t) c)
type_here {T = T} {c = c} t r k v o = ends_here (tree T t) c r k (record { t = t; res = ap (λ l. Some (t, l)) (sym v); ok = o; is = refl })

pub on_here : {f w ou : List ℕ} {T : Rows} {d : Described} {n m left : ℕ} {c : Checker} → Runs f w T d c → Told d w ou c 0 → c.state.left ≡ left
    → StepEnds f w ou w ou T d n m (done (Some left)) (goes tt c)
on_here {c = c} r k v = ends_here tt c r k (ap Some (sym v))

pub with_visits : {f w ou : List ℕ} {T : Rows} {d : Described} {L : Load} {v l : ℕ} {c : Checker} → c.state.left ≡ l → Begins f w ou T d L v c
    → Begins f w ou T d L l c
with_visits e b = record { sound = b.sound; runs = b.runs; lines = b.lines; orderly = b.orderly; visits = e; free = b.free }

-- ---- After a step
pub record After (f w ou w₁ ou₁ : List ℕ) (T : Rows) (d : Described) (G H : Load) (left : ℕ) (c : Checker) (T₁ : Rows) (b : Checker) : Type 0 where
  pub more : More w T T₁
  pub grew : Grew w w₁ G.records G.fields
  pub made : Made G.grade c b
  pub begins : Begins f w₁ ou₁ T₁ d H left b

module _ {f w ou w₁ ou₁ : List ℕ} {T : Rows} {d : Described} {G H : Load} {left : ℕ} {c : Checker} {T₁ : Rows} {b : Checker}
    (a : After f w ou w₁ ou₁ T d G H left c T₁ b) where
  -- A type in hand is still what it was.
  pub tree_after : (t : Ty) → Ok w t → tree T₁ t ≡ tree T t
  tree_after t o = tree_more a.more t o

  pub fine_after : (t : Ty) → Fine w t T c → Fine w₁ t T₁ b
  fine_after t x = record { ok = ok_kept a.grew.adds t x.ok; side = rw (tree_after t x.ok) (made_side G.grade c b (tree T t) a.made x.side) }

-- ---- A type, and then
pub got_same : {w : List ℕ} {r : Option (Ty × ℕ)} {T : Rows} {ty : Tree.Ty} {left l : ℕ} {t : Ty} → r ≡ Some (t, l) → IsTyped w r T ty left
    → (Ok w t) × (tree T t ≡ ty) × (left ≡ l)
got_same {t = t} e i = let same = some_pair_parts _ _ _ _ (sym i.res ∙ e) in (rw (← same.0) i.ok, rw (← same.0) i.is, same.1)

module _ {B : Type 0} {f w ou w₁ ou₁ : List ℕ} {T : Rows} {d : Described} {left : ℕ} {c : Checker} (G H K : Load) (fits : FitsIn (both G H) K)
    {r : Option (Ty × ℕ)} {E : StepGives B} where
  pub then_typed : {w₂ ou₂ : List ℕ} {t : Ty} {l : ℕ} (m : Step Tree.Ty) (next : Tree.Ty → Does B) → r ≡ Some (t, l) → Begins f w ou T d K left c
      → (Ready G.grade c → Meets IsSide G.grade c m)
      → (Begins f w ou T d G left c → StepEnds f w ou w₁ ou₁ T d G.records G.fields (typed w₁ r) m)
      → ((T₁ : Rows) (b : Checker) → After f w ou w₁ ou₁ T d G H l c T₁ b → Fine w₁ t T₁ b
      → StepEnds f w₁ ou₁ w₂ ou₂ T₁ d H.records H.fields E (next (tree T₁ t) b))
      → StepEnds f w ou w₂ ou₂ T d K.records K.fields E (and_then m next)
  then_typed {w₂} {ou₂} {t} {l} m next e s meets first rest = then_ends G H K fits IsSide m next (λ o. clash (cc (e, o))) s meets first on
    where
      on : (a : Tree.Ty) (b : Checker) (g : Gone f w ou w₁ ou₁ T d G.records G.fields (typed w₁ r) a b 0) → Went IsSide G.grade c a b
          → Begins f w₁ ou₁ g.T' d H b.state.left b → StepEnds f w₁ ou₁ w₂ ou₂ g.T' d H.records H.fields E (next a b)
      on a b g v s₁ =
          let i = got_same e g.is in
          rw (← i.1) (rest g.T' b (record { more = g.more; grew = g.grew; made = v.made; begins = with_visits i.2 s₁ })
          (record { ok = i.0; side = rw i.1 v.holds }))

  pub stop_typed : (m : Step Tree.Ty) (next : Tree.Ty → Does B) → r ≡ None → E.Out → Begins f w ou T d K left c
      → (Begins f w ou T d G left c → StepEnds f w ou w₁ ou₁ T d G.records G.fields (typed w₁ r) m)
      → StepEnds f w ou w₁ ou₁ T d K.records K.fields E (and_then m next)
  stop_typed m next e o s first = stop_ends G H K fits m next (λ R a v i. clash (cc (e, i.res))) (λ p. o) s first

module _ {B : Type 0} {f w ou w₁ ou₁ : List ℕ} {T : Rows} {d : Described} {left : ℕ} {c : Checker} (G H K : Load) (fits : FitsIn (both G H) K)
    (P : Unit {0} → Checker → Type 0) {r : Option ℕ} {E : StepGives B} where
  pub then_done : {w₂ ou₂ : List ℕ} {l : ℕ} (m : Step (Unit {0})) (next : Unit {0} → Does B) → r ≡ Some l → Begins f w ou T d K left c
      → (Ready G.grade c → Meets P G.grade c m)
      → (Begins f w ou T d G left c → StepEnds f w ou w₁ ou₁ T d G.records G.fields (done r) m)
      → ((T₁ : Rows) (b : Checker) → After f w ou w₁ ou₁ T d G H l c T₁ b → StepEnds f w₁ ou₁ w₂ ou₂ T₁ d H.records H.fields E (next tt b))
      → StepEnds f w ou w₂ ou₂ T d K.records K.fields E (and_then m next)
  then_done {w₂} {ou₂} {l} m next e s meets first rest = then_ends G H K fits P m next (λ o. clash (cc (e, o))) s meets first on
    where
      on : (a : Unit {0}) (b : Checker) (g : Gone f w ou w₁ ou₁ T d G.records G.fields (done r) a b 0) → Went P G.grade c a b
          → Begins f w₁ ou₁ g.T' d H b.state.left b → StepEnds f w₁ ou₁ w₂ ou₂ g.T' d H.records H.fields E (next a b)
      on a b g v s₁ =
          let q : b.state.left ≡ l = cc (e, g.is) in
          rest g.T' b (record { more = g.more; grew = g.grew; made = v.made; begins = with_visits q s₁ })

  pub stop_done : (m : Step (Unit {0})) (next : Unit {0} → Does B) → r ≡ None → E.Out → Begins f w ou T d K left c
      → (Begins f w ou T d G left c → StepEnds f w ou w₁ ou₁ T d G.records G.fields (done r) m)
      → StepEnds f w ou w₁ ou₁ T d K.records K.fields E (and_then m next)
  stop_done m next e o s first = stop_ends G H K fits m next (λ R a v i. clash (cc (e, i))) (λ p. o) s first

-- ---- A step that always goes on, and then
module _ {B : Type 0} {f w ou w₁ ou₁ : List ℕ} {T : Rows} {d : Described} {left : ℕ} {c : Checker} (G H K : Load) (fits : FitsIn (both G H) K)
    {E : StepGives B} where
  pub then_silent : {w₂ ou₂ : List ℕ} {v : ℕ} (P : Unit {0} → Checker → Type 0) (m : Step (Unit {0})) (next : Unit {0} → Does B)
      → Begins f w ou T d K left c → (Ready G.grade c → Meets P G.grade c m)
      → (Begins f w ou T d G left c → StepEnds f w ou w₁ ou₁ T d G.records G.fields (silent v) m)
      → ((T₁ : Rows) (b : Checker) → After f w ou w₁ ou₁ T d G H v c T₁ b → P tt b → StepEnds f w₁ ou₁ w₂ ou₂ T₁ d H.records H.fields E (next tt b))
      → StepEnds f w ou w₂ ou₂ T d K.records K.fields E (and_then m next)
  then_silent P m next s meets first rest = then_ends G H K fits P m next (λ o. o) s meets first
      (λ a b g v s₁. rest g.T' b (record { more = g.more; grew = g.grew; made = v.made; begins = with_visits g.is s₁ }) v.holds)

  pub then_numbered : {w₂ ou₂ : List ℕ} {x : ℕ} (P : ℕ → Checker → Type 0) (m : Step ℕ) (next : ℕ → Does B) → Begins f w ou T d K left c
      → (Ready G.grade c → Meets P G.grade c m)
      → (Begins f w ou T d G left c → StepEnds f w ou w₁ ou₁ T d G.records G.fields (numbered x left) m)
      → ((T₁ : Rows) (b : Checker) → After f w ou w₁ ou₁ T d G H left c T₁ b → P x b → StepEnds f w₁ ou₁ w₂ ou₂ T₁ d H.records H.fields E (next x b))
      → StepEnds f w ou w₂ ou₂ T d K.records K.fields E (and_then m next)
  then_numbered P m next s meets first rest = then_ends G H K fits P m next (λ o. o) s meets first
      (λ a b g v s₁. rw (← g.is.0) (rest g.T' b (record { more = g.more; grew = g.grew; made = v.made; begins = with_visits g.is.1 s₁ })
      (rw g.is.0 v.holds)))

-- ---- The visits of a type alone
pub only_ends : {f w ou w' ou' : List ℕ} {T : Rows} {d : Described} {n m : ℕ} {r : Option (Ty × ℕ)} (s : Step Tree.Ty)
    → StepEnds f w ou w' ou' T d n m (typed w' r) s → StepEnds f w ou w' ou' T d n m (done (only_w r)) (and_then s (λ ty b. goes tt b))
unfolding and_then
only_ends s (went g) = went (gone_as (omega arith) (omega arith) (λ R x. ap only_w x.res) g)
only_ends s (spent g) = spent (gone_as (omega arith) (omega arith) (λ R x. (ap only_w x.0, x.1)) g)

-- ---- A silent step is one that goes on
pub silent_on : {f w ou w' ou' : List ℕ} {T : Rows} {d : Described} {n m left : ℕ} {s : Step (Unit {0})} → StepEnds f w ou w' ou' T d n m (silent left) s
    → StepEnds f w ou w' ou' T d n m (done (Some left)) s
silent_on (went g) = went (gone_as (omega arith) (omega arith) (λ R x. ap Some (sym x)) g)
silent_on (spent g) = absurd g.is.0

-- A type in hand outlives a step.
pub done_typed : {f w ou w' ou' : List ℕ} {T : Rows} {d : Described} {n m : ℕ} {x : Option ℕ} {s : Step (Unit {0})} (t : Ty) → Ok w t
    → StepEnds f w ou w' ou' T d n m (done x) s
    → StepEnds f w ou w' ou' T d n m (typed w' (typed_after t x)) (and_then s (λ u b. goes (tree T t) b))
unfolding and_then
done_typed t o (went g) = went (record {
  T' = g.T';
  more = g.more;
  runs = g.runs;
  lines = g.lines;
  grew = g.grew;
  is = record { t = t; res = ap (typed_after t) g.is; ok = ok_kept g.grew.adds t o; is = tree_more g.more t o };
})
done_typed t o (spent g) = spent (gone_as (omega arith) (omega arith) (λ R x. (ap (typed_after t) x.0, x.1)) g)
