-- The form of a node by the arm that a `match` took: an arm for several variants says which tags the node may have.
use mathlib.Core.Bool.{Bool, true, false, not}
use mathlib.Core.List.{List, [], ◌∷◌}
use mathlib.Core.Path.{◌≡◌, refl}
use Prim.Native.Nat.{ℕ}
use lib.Dec.{T, eqb}
use mir.Val.{has_key}
use types.Run.{OneOf, miss}
use denote.Enum.Declared.{tag_of}
use borrow.Author.Tests.{eqb-true}
use Rattle.unification.proofs.Tests.{clash}
use Rattle.format.specs.Syntax.{Field, destructurable_kind}
use Rattle.meaning.specs.Check.{NodeForm, a_wildcard, a_variable, a_constant, a_record, a_disjunction, an_error, another, form_of}
use Rattle.tree.specs.declared.Node.{Node}
use Rattle.tree.specs.Nodes.{kind_w}
use Rattle.tree.specs.contracts.Node.{the_type}

-- One of the tags is among these.
abbrev pub among : List ℕ → List ℕ → Bool
among tags [] = false
among tags (k ∷ ks) = elim (has_key tags k) [ true ↦ true | false ↦ among tags ks ]

untrue : (b : Bool) → b ≡ false → T (not b)
untrue true e = clash (cc e)
untrue false e = tt

seen : (tags ks : List ℕ) (k : ℕ) → T (has_key ks k) → OneOf tags k → T (among tags ks)
seen tags [] k h x = h
seen tags (j ∷ ks) k h x = go (eqb j k) refl (has_key tags j) refl (λ h. seen tags ks k h x)
  where
    go : (b : Bool) → eqb j k ≡ b → (a : Bool) → has_key tags j ≡ a → (T (has_key ks k) → T (among tags ks))
        → T (elim a [ true ↦ true | false ↦ among tags ks ])
    go b q true e on = tt
    go true q false e on = absurd (miss tags j (untrue (has_key tags j) e) (rw (eqb-true j k q) x))
    go false q false e on = on (rw q at h)

-- What is asked of each form that a node of these tags can have. For tags that are written out each condition computes.
pub record ByForm (tags : List ℕ) (P : NodeForm → Type 0) : Type 0 where
  pub wildcard : T (among tags (4 ∷ [])) → P a_wildcard
  pub variable : (x : ℕ) → T (among tags (3 ∷ [])) → P (a_variable x)
  pub constant : T (among tags (0 ∷ 1 ∷ 2 ∷ 6 ∷ [])) → P a_constant
  pub fields : (fs : List Field) → T (among tags (8 ∷ [])) → P (a_record fs)
  pub branches : (es : List ℕ) → T (among tags (11 ∷ [])) → P (a_disjunction es)
  pub failed : T (among tags (15 ∷ [])) → P an_error
  pub other : T (among tags (5 ∷ 7 ∷ 9 ∷ 10 ∷ 12 ∷ 13 ∷ 14 ∷ 16 ∷ [])) → P another

pub by_form : (f : List ℕ) (tags : List ℕ) (P : NodeForm → Type 0) → ByForm tags P → (nd : Node) → OneOf tags (tag_of the_type nd) → P (form_of (kind_w f nd))
unfolding kind_w form_of
by_form f tags P h Node.Int x = h.constant (seen tags (0 ∷ 1 ∷ 2 ∷ 6 ∷ []) 0 tt x)
by_form f tags P h Node.Str x = h.constant (seen tags (0 ∷ 1 ∷ 2 ∷ 6 ∷ []) 1 tt x)
by_form f tags P h Node.Bytes x = h.constant (seen tags (0 ∷ 1 ∷ 2 ∷ 6 ∷ []) 2 tt x)
by_form f tags P h (Node.Var v) x = h.variable v (seen tags (3 ∷ []) 3 tt x)
by_form f tags P h Node.Wildcard x = h.wildcard (seen tags (4 ∷ []) 4 tt x)
by_form f tags P h Node.Never x = h.other (seen tags (5 ∷ 7 ∷ 9 ∷ 10 ∷ 12 ∷ 13 ∷ 14 ∷ 16 ∷ []) 5 tt x)
by_form f tags P h (Node.Prefix v) x = h.constant (seen tags (0 ∷ 1 ∷ 2 ∷ 6 ∷ []) 6 tt x)
by_form f tags P h (Node.Fuzzy v y) x = h.other (seen tags (5 ∷ 7 ∷ 9 ∷ 10 ∷ 12 ∷ 13 ∷ 14 ∷ 16 ∷ []) 7 tt x)
by_form f tags P h (Node.Record l) x = h.fields _ (seen tags (8 ∷ []) 8 tt x)
by_form f tags P h (Node.Key v e) x = h.other (seen tags (5 ∷ 7 ∷ 9 ∷ 10 ∷ 12 ∷ 13 ∷ 14 ∷ 16 ∷ []) 9 tt x)
by_form f tags P h (Node.Value e) x = h.other (seen tags (5 ∷ 7 ∷ 9 ∷ 10 ∷ 12 ∷ 13 ∷ 14 ∷ 16 ∷ []) 10 tt x)
by_form f tags P h (Node.Disjunction l) x = h.branches _ (seen tags (11 ∷ []) 11 tt x)
by_form f tags P h (Node.Subquery v q) x = h.other (seen tags (5 ∷ 7 ∷ 9 ∷ 10 ∷ 12 ∷ 13 ∷ 14 ∷ 16 ∷ []) 12 tt x)
by_form f tags P h (Node.Fact p e) x = h.other (seen tags (5 ∷ 7 ∷ 9 ∷ 10 ∷ 12 ∷ 13 ∷ 14 ∷ 16 ∷ []) 13 tt x)
by_form f tags P h (Node.Arith l) x = h.other (seen tags (5 ∷ 7 ∷ 9 ∷ 10 ∷ 12 ∷ 13 ∷ 14 ∷ 16 ∷ []) 14 tt x)
by_form f tags P h Node.Error x = h.failed (seen tags (15 ∷ []) 15 tt x)
by_form f tags P h (Node.Select v e) x = h.other (seen tags (5 ∷ 7 ∷ 9 ∷ 10 ∷ 12 ∷ 13 ∷ 14 ∷ 16 ∷ []) 16 tt x)

-- A literal or a prefix.
pub constant_form : (f : List ℕ) (nd : Node) → OneOf (0 ∷ 1 ∷ 2 ∷ 6 ∷ []) (tag_of the_type nd) → form_of (kind_w f nd) ≡ a_constant
constant_form f nd x = by_form f (0 ∷ 1 ∷ 2 ∷ 6 ∷ []) (λ q. q ≡ a_constant) (record {
  wildcard = λ h. absurd h;
  variable = λ v h. absurd h;
  constant = λ h. refl;
  fields = λ fs h. absurd h;
  branches = λ es h. absurd h;
  failed = λ h. absurd h;
  other = λ h. absurd h;
}) nd x

-- Neither a variable nor a wildcard nor a record.
pub whole_kind : (f : List ℕ) (ask : ℕ → Bool) (nd : Node) → OneOf (0 ∷ 1 ∷ 2 ∷ 5 ∷ 6 ∷ 7 ∷ 9 ∷ 10 ∷ 11 ∷ 12 ∷ 13 ∷ 14 ∷ 15 ∷ 16 ∷ [])
    (tag_of the_type nd) → destructurable_kind ask (kind_w f nd) ≡ false
unfolding kind_w destructurable_kind
whole_kind f ask Node.Int x = refl
whole_kind f ask Node.Str x = refl
whole_kind f ask Node.Bytes x = refl
whole_kind f ask (Node.Var v) x = absurd (miss (0 ∷ 1 ∷ 2 ∷ 5 ∷ 6 ∷ 7 ∷ 9 ∷ 10 ∷ 11 ∷ 12 ∷ 13 ∷ 14 ∷ 15 ∷ 16 ∷ []) 3 tt x)
whole_kind f ask Node.Wildcard x = absurd (miss (0 ∷ 1 ∷ 2 ∷ 5 ∷ 6 ∷ 7 ∷ 9 ∷ 10 ∷ 11 ∷ 12 ∷ 13 ∷ 14 ∷ 15 ∷ 16 ∷ []) 4 tt x)
whole_kind f ask Node.Never x = refl
whole_kind f ask (Node.Prefix v) x = refl
whole_kind f ask (Node.Fuzzy v y) x = refl
whole_kind f ask (Node.Record l) x = absurd (miss (0 ∷ 1 ∷ 2 ∷ 5 ∷ 6 ∷ 7 ∷ 9 ∷ 10 ∷ 11 ∷ 12 ∷ 13 ∷ 14 ∷ 15 ∷ 16 ∷ []) 8 tt x)
whole_kind f ask (Node.Key v e) x = refl
whole_kind f ask (Node.Value e) x = refl
whole_kind f ask (Node.Disjunction l) x = refl
whole_kind f ask (Node.Subquery v q) x = refl
whole_kind f ask (Node.Fact p e) x = refl
whole_kind f ask (Node.Arith l) x = refl
whole_kind f ask Node.Error x = refl
whole_kind f ask (Node.Select v e) x = refl
