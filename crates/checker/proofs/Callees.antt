-- What the callees' contracts say, as the laws of the cycle ask for it.
use mathlib.Core.List.{List}
use mathlib.Core.Logic.{◌⊎◌, inl, inr}
use mathlib.Core.Path.{◌≡◌, sym, subst, ◌∙◌}
use Prim.Native.Nat.{ℕ, ◌<◌, ◌≤◌}
use native.Mathlib.Omega.{arith}
use lib.ListN.{get_or}
use Rattle.work.specs.Layout.{UNKNOWNS, ENV-LEN, MARK-COUNT, UNDO-LEN}
use Rattle.cells.specs.declared.Ty.{Ty}
use Rattle.cells.specs.Promises.{FindsName}
use Rattle.cells.specs.Words.{annotate_w, fresh_w}
use Rattle.format.specs.Syntax.{FieldRef}
use Rattle.meaning.specs.Check as Check
use Rattle.messages.specs.declared.Message.{Message}
use Rattle.state.specs.Words.{leave_w}
use Rattle.state.specs.Lines.{Rejected}
use Rattle.tree.specs.declared.items.Items.{Items}
use Rattle.tree.specs.declared.Field.{Field}
use Rattle.tree.specs.declared.Stmt.{Stmt}
use Rattle.tree.specs.Nodes.{LowerItems, item_w, stmt_w, stmt_size_w}
use Rattle.tree.proofs.Below.{stmt_size}
use Rattle.tree.proofs.Steps.{item_lower, LowerStmt, stmt_lower}
use Rattle.steps.specs.Promises.{nodes_of, Rejects, Notes, Freshens, RollsTo, Leaves, KeyIs, OnType}
use Rattle.steps.specs.declared.Mark.{Mark}
use Rattle.steps.specs.Outside.{key_ty_w, TakesMark, Rewinds, KeyOf, ValueOf}
use Rattle.steps.proofs.Ending.{rejects, notes, freshens}
use Rattle.steps.proofs.Looking.{key_is}
use Rattle.steps.proofs.Besides.{rolls, leaves}
use Rattle.checker.specs.Promises.{Checks, Generates, Mentions}
use Rattle.checker.proofs.Alls.{Turn}
use Rattle.std.specs.Prelude.{Option, ℕ}
use Rattle.cells.specs.declared.Part.{Part}

pub notes_by : {f w ou w' : List ℕ} {n left : ℕ} {t : Ty} → w' ≡ annotate_w w n t → Notes f w ou n t left w' ou
notes_by {f} {w} {ou} {w'} {n} {left} {t} e = subst (λ (v : List ℕ). Notes f w ou n t left v ou) (sym e) (notes f w n t left)

pub freshens_by : {f w ou w' : List ℕ} {left x : ℕ} → (x ≡ get_or w UNKNOWNS 0) × (w' ≡ fresh_w w) → Freshens f w ou left w' ou x
freshens_by {f} {w} {ou} {w'} {left} {x} e =
    subst (λ (v : List ℕ). Freshens f w ou left v ou x) (sym e.1) (subst (λ (y : ℕ). Freshens f w ou left (fresh_w w) ou y) (sym e.0) (freshens f w left))

pub rolls_by : {f w ou w₀ w' : List ℕ} {m : Mark} → TakesMark w₀ m → Rewinds w m w'
    → RollsTo f w ou (get_or w₀ UNDO-LEN 0) (get_or w₀ ENV-LEN 0) (get_or w₀ MARK-COUNT 0) w' ou
rolls_by {f} {w} {ou} {w₀} {w'} {m} t r =
    subst (λ (x : ℕ). RollsTo f w ou x (get_or w₀ ENV-LEN 0) (get_or w₀ MARK-COUNT 0) w' ou) t.undo
    (subst (λ (x : ℕ). RollsTo f w ou m.undo x (get_or w₀ MARK-COUNT 0) w' ou) t.env
    (subst (λ (x : ℕ). RollsTo f w ou m.undo m.env x w' ou) t.marks (rolls f w r)))

pub leaves_by : {f w ou w' : List ℕ} {scope : ℕ} → w' ≡ leave_w w scope → Leaves f w ou scope w' ou
leaves_by {f} {w} {ou} {w'} {scope} e = subst (λ (v : List ℕ). Leaves f w ou scope v ou) (sym e) (leaves f w scope)

pub key_by : {f w : List ℕ} {p : ℕ} {r : Option Ty} → r ≡ key_ty_w w p → KeyIs f w p r
key_by {f} {w} {p} e = subst (λ (b : Option Ty). KeyIs f w p b) (sym e) (key_is f w p)

-- ---- An access by its field
pub key_on : {f w ou w' ou' : List ℕ} {n left : ℕ} {t : Ty} {r : Option (Ty × ℕ)} (name : ℕ) → KeyOf f w ou n name t left w' ou' r
    → OnType (λ d ty. Check.access_of d.schema (nodes_of d) n (FieldRef.Key name) ty) f w ou n t left w' ou' r
unfolding Check.access_of
key_on name k = k

pub value_on : {f w ou w' ou' : List ℕ} {n left : ℕ} {t : Ty} {r : Option (Ty × ℕ)} → ValueOf f w ou n t left w' ou' r
    → OnType (λ d ty. Check.access_of d.schema (nodes_of d) n FieldRef.Value ty) f w ou n t left w' ou' r
unfolding Check.access_of
value_on v = v

-- ---- Parts read from the file
pub items_some : {n : ℕ} {l : Items} → LowerItems n l → 0 < l.n → 0 < l.below
items_some low h = omega (arith, low.some h, low.below)

pub item_falls : (f : List ℕ) (l : Items) (i : ℕ) {e : ℕ} → (0 < l.n → 0 < l.below) → i < l.n → e ≡ item_w f l i → e < l.below
item_falls f l i some h q = rw q (item_lower f l i (some (omega arith)))

pub stmt_falls : (f : List ℕ) (at : ℕ) {n : ℕ} {s s' : Stmt} → 0 < n → s ≡ stmt_w f at n → s ≡ s' → LowerStmt n s'
stmt_falls f at {n} h p q = subst (λ (x : Stmt). LowerStmt n x) (sym p ∙ q) (stmt_lower f at n h)

pub alone_falls : (f : List ℕ) (at : ℕ) {n x : ℕ} {s : Stmt} → 0 < n → s ≡ stmt_w f at n → (s ≡ Stmt.Implicit x) ⊎ (s ≡ Stmt.Negation x) → x < n
alone_falls f at h p (inl e) = stmt_falls f at h p e
alone_falls f at h p (inr e) = stmt_falls f at h p e

pub turn_at : {f w ou w' ou' : List ℕ} {e x left : ℕ} {t : Ty} {r : Option ℕ} → e ≡ x → Turn f w ou e t left w' ou' r → Turn f w ou x t left w' ou' r
turn_at {f} {w} {ou} {w'} {ou'} {left = left} {t = t} {r = r} q u = subst (λ (y : ℕ). Turn f w ou y t left w' ou' r) q u

pub generates_at : {f w ou w' ou' : List ℕ} {e x left : ℕ} {r : Option (Ty × ℕ)} → e ≡ x → Generates f w ou e left w' ou' r → Generates f w ou x left w' ou' r
generates_at {f} {w} {ou} {w'} {ou'} {left = left} {r = r} q u = subst (λ (y : ℕ). Generates f w ou y left w' ou' r) q u

pub mentions_at : {f w ou w' ou' : List ℕ} {e left : ℕ} {x y : Field} {r : Option ℕ} → x ≡ y → Mentions f w ou x.name x.value e left w' ou' r
    → Mentions f w ou y.name y.value e left w' ou' r
mentions_at {f} {w} {ou} {w'} {ou'} {e} {left} {r = r} q u = subst (λ (z : Field). Mentions f w ou z.name z.value e left w' ou' r) q u

pub checks_at : {f w ou w' ou' : List ℕ} {left : ℕ} {t : Ty} {x y : Field} {r : Option ℕ} → x ≡ y → Checks f w ou x.value t left w' ou' r
    → Checks f w ou y.value t left w' ou' r
checks_at {f} {w} {ou} {w'} {ou'} {left} {t} {r = r} q u = subst (λ (z : Field). Checks f w ou z.value t left w' ou' r) q u

pub finds_at : {w : List ℕ} {c : ℕ} {x y : Field} {found : Option Part} → x ≡ y → FindsName w c x.name found → FindsName w c y.name found
finds_at {w} {c} {found = found} q u = subst (λ (z : Field). FindsName w c z.name found) q u

-- the alternative that the field names
pub unknown_at : {f w ou w' ou' : List ℕ} {n left : ℕ} {r : Option ℕ} {x y : Field} → x ≡ y
    → Rejected f w ou n (Message.NoAlternative x.name) left w' ou' r → Rejects f w ou n (Message.NoAlternative y.name) left w' ou' r
unknown_at {f} {w} {ou} {w'} {ou'} {n} {left} {r} q u = rejects _ _ _ _ _
    (subst (λ (z : Field). Rejected f w ou n (Message.NoAlternative z.name) left w' ou' r) q u)

pub size_small : (f : List ℕ) (at : ℕ) {s : ℕ} → s ≡ stmt_size_w f at → (6 ≤ s) × (s ≤ 10)
size_small f at q = rw q (stmt_size f at)
