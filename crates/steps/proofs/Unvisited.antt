-- Nodes that are looked at, not visited: a side that is introduced, the head, and a record that may be taken apart.
use mathlib.Core.Bool.{Bool, true, false, not, not-not}
use mathlib.Core.List.{List, [], ◌∷◌}
use mathlib.Core.Path.{◌≡◌, refl, sym, ◌∙◌, ap}
use Prim.Native.Nat.{ℕ, ◌+◌, ◌-◌, ◌≤◌, ◌<◌}
use native.Mathlib.Omega.{arith}
use lib.ListN.{length}
use types.Run.{OneOf}
use denote.Enum.Declared.{tag_of}
use Rattle.cells.specs.Stands.{Rows}
use Rattle.format.specs.Syntax.{all_fields, destructurable_kind, destructurable_in, is_destructurable}
use Rattle.format.specs.File.{Described}
use Rattle.format.specs.Sound.{Sound}
use Rattle.meaning.specs.Check.{Checker, Step, goes, and_then, NodeForm, a_wildcard, a_variable, form, form_of, introduce, introduce_side, head_form}
use Rattle.meaning.specs.Grades.{early}
use Rattle.meaning.proofs.Depth.{lower_falls, destructurable_is}
use Rattle.tree.specs.declared.items.Items.{Items}
use Rattle.tree.specs.declared.Field.{Field}
use Rattle.tree.specs.declared.Node.{Node}
use Rattle.tree.specs.Nodes.{field_w, field_of, fields_from, kind_w, LowerItems, IsNode}
use Rattle.tree.specs.contracts.Node.{the_type}
use Rattle.tree.proofs.Lowering.{lower_below}
use Rattle.messages.specs.declared.Message.TheVariants as Message
use Rattle.state.specs.Words.{Introduces}
use Rattle.state.specs.Lines.{Rejected}
use Rattle.state.specs.Runs.{Runs}
use Rattle.steps.specs.Ends.{silent, numbered, StepEnds, went, spent}
use Rattle.steps.specs.Promises.{nodes_of, TellsDestructurable, all_apart, AsksAll}
use Rattle.steps.specs.Outside.{IntroducesSide, ChecksHead}
use Rattle.steps.proofs.Ending.{reject_ends, brings}
use Rattle.steps.proofs.Sequel.{ends_here}
use Rattle.steps.proofs.Results.{on_here}
use Rattle.steps.proofs.Reading.{kind_is, kind_read, form_read, name_small, fields_some, fields_none}
use Rattle.steps.proofs.Forms.{ByForm, by_form, whole_kind}
use Rattle.std.specs.Prelude.{Option, Some}

-- ---- `introduce_side`
abbrev form_at : Described → ℕ → NodeForm
form_at d n = form d.schema (nodes_of d) n

-- All but a variable.
abbrev no_variable : List ℕ
no_variable = 0 ∷ 1 ∷ 2 ∷ 4 ∷ 5 ∷ 6 ∷ 7 ∷ 8 ∷ 9 ∷ 10 ∷ 11 ∷ 12 ∷ 13 ∷ 14 ∷ 15 ∷ 16 ∷ []

side_stays : (d : Described) (n : ℕ) (c : Checker) → ByForm no_variable (λ q. introduce_side d.schema (nodes_of d) n q c ≡ goes tt c)
unfolding introduce_side
side_stays d n c = record {
  wildcard = λ h. refl;
  variable = λ v h. absurd h;
  constant = λ h. refl;
  fields = λ fs h. refl;
  branches = λ es h. refl;
  failed = λ h. refl;
  other = λ h. refl;
}

module _ {f w ou : List ℕ} {n : ℕ} {nd : Node} (i : IsNode f w n nd) where
  pub side_other : OneOf no_variable (tag_of the_type nd) → IntroducesSide f w ou n w ou
  side_other x = record {
    is = λ left d there. record {
      is = λ T c s u.
          rw (form_read s there i, by_form f no_variable (λ q. introduce_side d.schema (nodes_of d) n q c ≡ goes tt c) (side_stays d n c) nd x)
          (ends_here tt c s.runs s.lines s.visits);
    };
  }

brought : {f w ou w' ou' : List ℕ} {T : Rows} {d : Described} {a b left v : ℕ} (m : Step ℕ) → StepEnds f w ou w' ou' T d a b (numbered v left) m
    → StepEnds f w ou w' ou' T d a b (silent left) (and_then m (λ y e. goes tt e))
unfolding and_then
brought m (went g) = went (record { T' = g.T'; more = g.more; runs = g.runs; lines = g.lines; grew = g.grew; is = g.is.1 })
brought m (spent g) = absurd g.is.0

pub side_variable : {f w ou w' : List ℕ} {n x v : ℕ} {nd : Node} → IsNode f w n nd → nd ≡ Node.Var x → Introduces w n x w' v → IntroducesSide f w ou n w' ou
unfolding kind_w form_of introduce_side early
side_variable {f} {w} {ou} {w'} {n} {x} {v} i e I = record {
  is = λ left d there. record {
    is = λ T c s u.
        let k = kind_read s there (rw e at i) in
        let q : form_at d n ≡ a_variable x = form_read s there (rw e at i) in
        rw q (brought (introduce n x c) (((brings f w n x left w' v I).is d (name_small s.sound there k) there).is T c (rw q at s) tt));
  };
}

-- ---- `check_head`

-- All but a wildcard.
abbrev no_wildcard : List ℕ
no_wildcard = 0 ∷ 1 ∷ 2 ∷ 3 ∷ 5 ∷ 6 ∷ 7 ∷ 8 ∷ 9 ∷ 10 ∷ 11 ∷ 12 ∷ 13 ∷ 14 ∷ 15 ∷ 16 ∷ []

head_stays : (d : Described) (n : ℕ) (c : Checker) → ByForm no_wildcard (λ q. head_form d.schema (nodes_of d) n q c ≡ goes tt c)
unfolding head_form
head_stays d n c = record {
  wildcard = λ h. absurd h;
  variable = λ v h. refl;
  constant = λ h. refl;
  fields = λ fs h. refl;
  branches = λ es h. refl;
  failed = λ h. refl;
  other = λ h. refl;
}

module _ {f w ou : List ℕ} {n left : ℕ} {nd : Node} (i : IsNode f w n nd) where
  pub head_other : OneOf no_wildcard (tag_of the_type nd) → ChecksHead f w ou n left w ou (Some left)
  head_other x = record {
    is = λ d there. record {
      is = λ T c s u.
          rw (form_read s there i, by_form f no_wildcard (λ q. head_form d.schema (nodes_of d) n q c ≡ goes tt c) (head_stays d n c) nd x)
          (on_here s.runs s.lines s.visits);
    };
  }

  pub head_wildcard : nd ≡ Node.Wildcard → {w' ou' : List ℕ} {r : Option ℕ} → Rejected f w ou n Message.WildcardHead left w' ou' r
      → ChecksHead f w ou n left w' ou' r
  unfolding kind_w form_of head_form
  head_wildcard e x = record {
    is = λ d there. record {
      is = λ T c s u. let q : form_at d n ≡ a_wildcard = form_read s there (rw e at i) in rw q (reject_ends s n there Message.WildcardHead tt x);
    };
  }

-- ---- `destructurable`
module _ {f w : List ℕ} {n : ℕ} {nd : Node} (i : IsNode f w n nd) where
  pub asks_variable : (x : ℕ) → nd ≡ Node.Var x → TellsDestructurable f w n true
  unfolding is_destructurable destructurable_in destructurable_kind kind_w
  asks_variable x e = record { is = λ T d c s R there. rw (kind_is s R there (rw e at i), destructurable_kind) refl }

  pub asks_wildcard : nd ≡ Node.Wildcard → TellsDestructurable f w n true
  unfolding is_destructurable destructurable_in destructurable_kind kind_w
  asks_wildcard e = record { is = λ T d c s R there. rw (kind_is s R there (rw e at i), destructurable_kind) refl }

  pub asks_record : (l : Items) → nd ≡ Node.Record l → {r : Bool} → AsksAll f w l r → TellsDestructurable f w n r
  unfolding is_destructurable destructurable_in destructurable_kind kind_w
  asks_record l e A = record {
    is = λ T d c s R there.
        let low : LowerItems n l = rw e at i.lower in
        rw (kind_is s R there (rw e at i), destructurable_kind) (A.is T d c s R (omega (arith, low.below)) n (omega (arith, low.below)));
  }

  pub items_lower : (l : Items) → nd ≡ Node.Record l → LowerItems n l
  items_lower l e = rw e at i.lower

  pub asks_other : OneOf (0 ∷ 1 ∷ 2 ∷ 5 ∷ 6 ∷ 7 ∷ 9 ∷ 10 ∷ 11 ∷ 12 ∷ 13 ∷ 14 ∷ 15 ∷ 16 ∷ []) (tag_of the_type nd) → TellsDestructurable f w n false
  unfolding is_destructurable destructurable_in
  asks_other x = record { is = λ T d c s R there. rw (kind_is s R there i) (sym (whole_kind f (λ m. destructurable_in n (nodes_of d) m) nd x)) }

-- ---- `all_destructurable`

-- The answer for all fields is that for the fields from number i on.
pub record Asking (f w : List ℕ) (l : Items) (i : ℕ) : Type 0 where
  pub within : i ≤ l.n
  pub is : (T : Rows) (d : Described) (c : Checker) → Sound d → Runs f w T d c → l.below ≤ length (nodes_of d) → (k : ℕ) → l.below ≤ k
      → all_apart d k (fields_from f l 0 l.n) ≡ all_apart d k (fields_from f l i (l.n - i))

pub asking_start : (f w : List ℕ) (l : Items) → Asking f w l 0
asking_start f w l = let z : l.n - 0 ≡ l.n = omega arith in record { within = omega arith; is = λ T d c s R few k above. rw z refl }

field_lower : (f : List ℕ) (l : Items) (i : ℕ) → (0 < l.n → 0 < l.below) → i < l.n → (field_w f l i).value < l.below
unfolding field_w
field_lower f l i low h = lower_below _ _ (λ z. omega (arith, low (omega arith)))

pub field_falls : (f : List ℕ) (l : Items) (i : ℕ) {e : Field} → (0 < l.n → 0 < l.below) → i < l.n → e ≡ field_w f l i → e.value < l.below
field_falls f l i low h q = rw q (field_lower f l i low h)

module _ {f w : List ℕ} {l : Items} {i : ℕ} (A : Asking f w l i) where
  pub asking_done : l.n ≤ i → AsksAll f w l true
  unfolding all_fields
  asking_done h = record { is = λ T d c s R few k above. sym (A.is T d c s R few k above ∙ rw (fields_none f l i h) refl) }

  module _ (low : 0 < l.n → 0 < l.below) (h : i < l.n) {e : Field} (q : e ≡ field_w f l i) {b : Bool} (D : TellsDestructurable f w e.value b) where
    asked : {T : Rows} {d : Described} {c : Checker} → Sound d → Runs f w T d c → l.below ≤ length (nodes_of d) → (k : ℕ) → l.below ≤ k
        → destructurable_in k (nodes_of d) (field_w f l i).value ≡ b
    asked {T} {d} {c} s R few k above =
        let v = field_lower f l i low h in
        let D' : TellsDestructurable f w (field_w f l i).value b = rw q at D in
        destructurable_is (nodes_of d) (lower_falls (nodes_of d) s.lower) k (field_w f l i).value (omega (arith, v)) ∙ sym
        (D'.is T d c s R (omega (arith, v)))

    pub asking_next : not b ≡ false → Asking f w l (i + 1)
    unfolding all_fields field_of
    asking_next z = record {
      within = omega arith;
      is = λ T d c s R few k above. let y : b ≡ true = sym (not-not b) ∙ ap not z in A.is T d c s R few k above ∙ rw
          (fields_some f l i h, asked s R few k above ∙ y, all_fields) refl;
    }

    pub asking_stops : not b ≡ true → AsksAll f w l false
    unfolding all_fields field_of
    asking_stops z = record {
      is = λ T d c s R few k above. let y : b ≡ false = sym (not-not b) ∙ ap not z in sym
          (A.is T d c s R few k above ∙ rw (fields_some f l i h, asked s R few k above ∙ y, all_fields) refl);
    }
