-- A message over a language has one text under names and schemas that give the language's names and its predicates' names alike. So have the
-- answers whose messages are over it.
use mathlib.Core.List.{List, [], ◌∷◌, ◌++◌}
use mathlib.Core.Path.{◌≡◌, refl, sym, ◌∙◌, ap, ap₂}
use Prim.Native.Nat.{ℕ, zero, suc, ◌<◌}
use native.Mathlib.Nat.{not-suc-le-zero, le_of_suc-le-suc}
use lib.ListN.{length}
use Rattle.unification.specs.Ty.{Leaf, Kind, Ty, Row}
use Rattle.unification.specs.Unify.{UnionDiff}
use Rattle.format.specs.All.{All}
use Rattle.meaning.specs.Diag.{Message, Diagnostic}
use Rattle.format.specs.Schema.{Predicate, Schema, get}
use Rattle.meaning.specs.Check.{Typed}
use Rattle.meaning.specs.Messages.{or_mark, or_fact, name_of, fact_name, render_leaf, separator, part, render, render_row, difference, expected_found}
use Rattle.meaning.specs.Messages.{message_text}
use Rattle.format.specs.Bytes.{bytes₄, hex_line}
use Rattle.meaning.specs.Answer.{diagnostic_line, diagnostic_lines, unused_lines, node_lines, answer_lines, numbered, form_lines}
use Rattle.meaning.specs.Outcome.{decide_run}
use Rattle.laws.specs.Over.{Language, LeafFacts, cell_name, TypeOver, RowOver, DiffOver, MessageOver}
use Rattle.laws.specs.Marks.{NamedBelow}
use Rattle.std.specs.Prelude.{None, Option, Some, slice_get}

-- ---- Names, with more of them after
pub at_append : {A : Type 0} (l more : List A) (n : ℕ) → n < length l → slice_get l n ≡ slice_get (l ++ more) n
at_append [] more n h = absurd (not-suc-le-zero h)
at_append (x ∷ l) more zero h = refl
at_append (x ∷ l) more (suc n) h = at_append l more n (le_of_suc-le-suc h)

pub fact_append : (names more : List (List ℕ)) (s s' : Schema) (p : ℕ) → get s p ≡ get s' p → NamedBelow (length names) (get s p)
    → fact_name names s p ≡ fact_name (names ++ more) s' p
unfolding fact_name
fact_append names more s s' p e h = go (get s p) refl h
  where
    go : (o : Option Predicate) → get s p ≡ o → NamedBelow (length names) o → fact_name names s p ≡ fact_name (names ++ more) s' p
    go None q i = rw (q, sym e ∙ q, fact_name)
    go (Some d) q i = rw (q, sym e ∙ q, fact_name) (at_append names more d.name i)

-- ---- One message

-- What messages over L look up.
pub record SameNames (L : Language) (names names' : List (List ℕ)) (s s' : Schema) : Type 0 where
  pub max_distance : s.max_distance ≡ s'.max_distance
  pub max_term_chars : s.max_term_chars ≡ s'.max_term_chars
  pub texts : (x : ℕ) → L.name x → slice_get names x ≡ slice_get names' x
  pub facts : (p : ℕ) → L.predicate p → fact_name names s p ≡ fact_name names' s' p

module _ (L : Language) (names names' : List (List ℕ)) (s s' : Schema) (same : SameNames L names names' s s') where
  name_same : (x : ℕ) → L.name x → name_of names s x ≡ name_of names' s' x
  unfolding name_of
  name_same x h = ap or_mark (same.texts x h)

  leaf_same : (l : Leaf) → LeafFacts L.predicate l → render_leaf names s l ≡ render_leaf names' s' l
  unfolding render_leaf
  leaf_same Leaf.Int h = refl
  leaf_same Leaf.String h = refl
  leaf_same Leaf.Bytes h = refl
  leaf_same (Leaf.Fact p) h = ap or_fact (same.facts p h)

  separator_same : (k : Kind) (r : Row) → separator names s k r ≡ separator names' s' k r
  unfolding separator
  separator_same Kind.Record Row.ε = refl
  separator_same Kind.Record (Row.cell key label t r) = refl
  separator_same Kind.Union Row.ε = refl
  separator_same Kind.Union (Row.cell key label t r) = refl

  part_same : (k : Kind) (key label : ℕ) (t t' : List ℕ) → L.name (cell_name k key label) → t ≡ t' → part names s k key label t ≡ part names' s' k key label t'
  unfolding part
  part_same Kind.Record key label t t' n e = let i = name_same key n in cc
  part_same Kind.Union key label t t' n e = let i = name_same label n in cc

  mutual
    unfolding render

    render_same : (t : Ty) → TypeOver L t → render names s t ≡ render names' s' t
    render_same (Ty.leaf l) h = leaf_same l h
    render_same (Ty.node k r) h = let i = row_same r k h in cc
    render_same (Ty.Var x) h = refl
    render_same Ty.Error h = refl

    row_same : (r : Row) (k : Kind) → RowOver L r k → render_row names s r k ≡ render_row names' s' r k
    row_same Row.ε k h = refl
    row_same (Row.cell key label t r) k h =
        let first = part_same k key label (render names s t) (render names' s' t) h.0 (render_same t h.1.0) in
        let between = separator_same k r in
        let more = row_same r k h.1.1 in
        cc

  difference_same : (d : UnionDiff) → DiffOver L d → difference names s d ≡ difference names' s' d
  unfolding difference
  difference_same (UnionDiff.Absent name disc) h = let i = name_same name h in cc
  difference_same (UnionDiff.Renamed expected got disc) h = let i = name_same expected h.0 in let j = name_same got h.1 in cc
  difference_same (UnionDiff.Payload name disc) h = let i = name_same name h in cc

  both_same : (e g : Ty) → TypeOver L e → TypeOver L g → expected_found names s e g ≡ expected_found names' s' e g
  unfolding expected_found
  both_same e g h i = let a = render_same e h in let b = render_same g i in cc

  pub text_same : (m : Message) → MessageOver L m → message_text names s m ≡ message_text names' s' m
  unfolding message_text
  text_same Message.wildcard_head h = refl
  text_same Message.bound_constant h = refl
  text_same Message.denied_constant h = refl
  text_same Message.matched_patterns h = refl
  text_same Message.denied_pattern h = refl
  text_same (Message.distance_outside d) h = let i = same.max_distance in cc
  text_same (Message.term_too_long n) h = let i = same.max_term_chars in cc
  text_same Message.unknown_type h = refl
  text_same Message.value_shadowed h = refl
  text_same Message.no_value h = refl
  text_same (Message.no_alternative x) h = let i = name_same x h in cc
  text_same (Message.no_field x) h = let i = name_same x h in cc
  text_same (Message.not_one_alternative n) h = refl
  text_same (Message.not_aunion t) h = let i = render_same t h in cc
  text_same (Message.not_afact t) h = let i = render_same t h in cc
  text_same (Message.no_fields t) h = let i = render_same t h in cc
  text_same (Message.no_order t) h = let i = render_same t h in cc
  text_same (Message.mismatch e g) h = both_same e g h.0 h.1
  text_same (Message.union_mismatch d e g) h = let i = both_same e g h.1.0 h.1.1 in let j = difference_same d h.0 in cc
  text_same Message.infinite h = refl

-- ---- Answers
module _ (text text' : Message → List ℕ) where
  abbrev pub Alike : List Diagnostic → Type 0
  Alike ds = All (λ d. text d.message ≡ text' d.message) ds

  line_same : (d : Diagnostic) → text d.message ≡ text' d.message → diagnostic_line text d ≡ diagnostic_line text' d
  unfolding diagnostic_line
  line_same d e = cc

  lines_same : (ds : List Diagnostic) → Alike ds → diagnostic_lines text ds ≡ diagnostic_lines text' ds
  unfolding diagnostic_lines
  lines_same [] h = refl
  lines_same (d ∷ ds) h = ap₂ ◌++◌ (line_same d h.0) (lines_same ds h.1)

  answer_same : (t : Typed) → Alike t.diagnostics → answer_lines text t ≡ answer_lines text' t
  unfolding answer_lines
  answer_same t h = ap (λ l. ((node_lines 0 t.tys ++ l) ++ unused_lines t.unused) ++ hex_line (9 ∷ bytes₄ t.visits)) (lines_same t.diagnostics h)

  numbered_same : (k : ℕ) (ts : List Typed) → All (λ t. Alike t.diagnostics) ts → numbered text k ts ≡ numbered text' k ts
  unfolding numbered
  numbered_same k [] h = refl
  numbered_same k (t ∷ ts) h = let first = answer_same t h.0 in let more = numbered_same (suc k) ts h.1 in cc

  form_same : (ts : List Typed) → All (λ t. Alike t.diagnostics) ts → form_lines text ts ≡ form_lines text' ts
  unfolding form_lines
  form_same [] h = refl
  form_same (t ∷ []) h = answer_same t h.0
  form_same (t ∷ u ∷ ts) h = numbered_same 0 (t ∷ u ∷ ts) h

  abbrev pub RunsAlike : Option (List Typed) → Type 0
  RunsAlike None = Unit {0}
  RunsAlike (Some ts) = All (λ t. Alike t.diagnostics) ts

  pub decide_same : (o : Option (List Typed)) → RunsAlike o → decide_run text o ≡ decide_run text' o
  unfolding decide_run
  decide_same None h = refl
  decide_same (Some ts) h = rw (form_same ts h)
