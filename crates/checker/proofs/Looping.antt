-- A loop midway: the words stand for a checker from which the rest of the definition's list gives what the whole list
-- gives from the start. A turn that goes on keeps this; the end of the rest is the end of the whole, and so is a turn
-- in which the visits run out.
use mathlib.Core.List.{List}
use mathlib.Core.Path.{◌≡◌, ◌∙◌, ap}
use Prim.Native.Nat.{ℕ, ◌+◌, ◌≤◌}
use native.Mathlib.Omega.{arith}
use Rattle.unification.proofs.Sides.{side_more}
use Rattle.cells.specs.declared.Ty.{Ty}
use Rattle.cells.specs.Stands.{Rows, tree, Ok}
use Rattle.format.specs.File.{Described}
use Rattle.meaning.specs.Check.{Checker, Step, Does, and_then}
use Rattle.meaning.specs.Grades.{unknowns, Ready}
use Rattle.meaning.proofs.Meets.{Meets, made_more}
use Rattle.cells.specs.Inferred.{More}
use Rattle.state.specs.Runs.{Grew}
use Rattle.steps.specs.Ends.{StepGives, Gone, StepEnds, went, spent}
use Rattle.steps.specs.Loads.{Load, both, FitsIn, Begins}
use Rattle.steps.specs.Promises.{Fine}
use Rattle.cells.proofs.Frame.{tree_more, more_refl}
use Rattle.steps.proofs.Growing.{ok_kept, more_trans, grew_refl, grew_trans}
use Rattle.steps.proofs.Sequel.{free_after, begins_part, holds_left, Led, led}

-- Of the load K, H is left for the rest.
pub record Midway {A : Type 0} (f w₀ ou₀ w ou : List ℕ) (T : Rows) (d : Described) (K H : Load) (left : ℕ) (c : Checker) (whole : Step A)
    (rest : Does A) : Type 0 where
  pub T₁ : Rows
  pub b : Checker
  pub records : ℕ
  pub fields : ℕ
  pub more : More w₀ T T₁
  pub grew : Grew w₀ w records fields
  pub few_records : records + H.records ≤ K.records
  pub few_fields : fields + H.fields ≤ K.fields
  pub up : unknowns c ≤ unknowns b
  pub begins : Begins f w ou T₁ d H left b
  pub same : whole ≡ rest b

pub mid_start : {A : Type 0} {f w ou : List ℕ} {T : Rows} {d : Described} {K : Load} {left : ℕ} {c : Checker} (whole : Step A) (rest : Does A)
    → Begins f w ou T d K left c → whole ≡ rest c → Midway f w ou w ou T d K K left c whole rest
mid_start {T = T} {c = c} whole rest s e = record {
  T₁ = T;
  b = c;
  records = 0;
  fields = 0;
  more = more_refl;
  grew = grew_refl;
  few_records = omega arith;
  few_fields = omega arith;
  up = omega arith;
  begins = s;
  same = e;
}

module _ {A : Type 0} {f w₀ ou₀ w ou : List ℕ} {T : Rows} {d : Described} {K H : Load} {left : ℕ} {c : Checker} {whole : Step A} {rest : Does A}
    (M : Midway f w₀ ou₀ w ou T d K H left c whole rest) where
  -- A type in hand from before the loop.
  pub mid_tree : (t : Ty) → Ok w₀ t → tree M.T₁ t ≡ tree T t
  mid_tree t o = tree_more M.more t o

  pub mid_fine : (t : Ty) → Fine w₀ t T c → Fine w t M.T₁ M.b
  mid_fine t x = record {
    ok = ok_kept M.grew.adds t x.ok;
    side = rw (mid_tree t x.ok) (side_more (unknowns c) (unknowns M.b) M.up (tree T t) x.side);
  }

  -- How the rest ends, the whole ends.
  pub mid_ends : {w₂ ou₂ : List ℕ} {E : StepGives A} → StepEnds f w ou w₂ ou₂ M.T₁ d H.records H.fields E (rest M.b)
      → StepEnds f w₀ ou₀ w₂ ou₂ T d K.records K.fields E whole
  mid_ends {w₂} {ou₂} {E} h = rw M.same (go h)
    where
      on : {B : Type 0} {F : StepGives B} {a : B} {b : Checker} {v : ℕ} → Gone f w ou w₂ ou₂ M.T₁ d H.records H.fields F a b v
          → Gone f w₀ ou₀ w₂ ou₂ T d K.records K.fields F a b v
      on g = record {
        T' = g.T';
        more = more_trans M.grew.adds M.more g.more;
        runs = g.runs;
        lines = g.lines;
        grew = grew_trans M.few_records M.few_fields M.grew g.grew;
        is = g.is;
      }

      go : {s : Step A} → StepEnds f w ou w₂ ou₂ M.T₁ d H.records H.fields E s → StepEnds f w₀ ou₀ w₂ ou₂ T d K.records K.fields E s
      go (went g) = went (on g)
      go (spent g) = spent (on g)

  -- A turn that goes on.
  module _ {B : Type 0} {w₁ ou₁ : List ℕ} (G H' : Load) (fits : FitsIn (both G H') H) {E : StepGives B} (P : B → Checker → Type 0) (m : Step B) where
    pub mid_led : ¬ E.Out → (Ready G.grade M.b → Meets P G.grade M.b m)
        → (Begins f w ou M.T₁ d G left M.b → StepEnds f w ou w₁ ou₁ M.T₁ d G.records G.fields E m) → Led f w ou w₁ ou₁ M.T₁ d G E P M.b m
    mid_led never meets first = let s = begins_part G H (holds_left G H' H fits) M.begins in led G P never (meets s.free.ready) (first s)

    pub mid_same : (L : Led f w ou w₁ ou₁ M.T₁ d G E P M.b m) (next : B → Does A) → rest M.b ≡ and_then m next → whole ≡ next L.a L.b
    unfolding and_then
    mid_same L next shape = M.same ∙ shape ∙ ap (λ x. and_then x next) L.is

    abbrev pub mid_after : (L : Led f w ou w₁ ou₁ M.T₁ d G E P M.b m) (next : B → Does A) (l : ℕ) → rest M.b ≡ and_then m next
        → L.b.state.left ≡ l → Midway f w₀ ou₀ w₁ ou₁ T d K H' l c whole (next L.a)
    mid_after L next l shape v = record {
      T₁ = L.gone.T';
      b = L.b;
      records = M.records + G.records;
      fields = M.fields + G.fields;
      more = more_trans M.grew.adds M.more L.gone.more;
      grew = grew_trans (omega arith) (omega arith) M.grew L.gone.grew;
      few_records = omega (arith, fits.records, M.few_records);
      few_fields = omega (arith, fits.fields, M.few_fields);
      up = omega (arith, M.up, made_more G.grade M.b L.b L.went.made);
      begins = record {
        sound = M.begins.sound;
        runs = L.gone.runs;
        lines = L.gone.lines;
        orderly = L.went.orderly;
        visits = v;
        free = free_after G H' H fits L.went.made L.gone.grew M.begins.free;
      };
      same = mid_same L next shape;
    }
