-- Card 10. `check` reads no text: of the names it asks which is `value`, and how many characters a fuzzy term has.
use mathlib.Core.List.{List, [], ◌∷◌, map}
use mathlib.Core.Path.{◌≡◌, refl, sym, ◌∙◌, ap}
use Prim.Native.Nat.{ℕ}
use lib.ListN.{get_or, get_or-map}
use Rattle.text.specs.Utf8.{characters}
use Rattle.format.specs.All.{All}
use Rattle.format.specs.Syntax.{ExprKind, Node, Ast}
use Rattle.format.specs.Schema.{get}
use Rattle.format.specs.Lines.{position}
use Rattle.format.specs.Conditions.{same_text}
use Rattle.format.specs.File.{count_of, value_text}
use Rattle.format.specs.Content.{Content, describes}
use Rattle.meaning.specs.Check.{Checked, check}
use Rattle.laws.specs.Over.{everything}
use Rattle.laws.specs.Same.{AsksAlike, Same}
use Rattle.laws.specs.Names.{with_names, TermKept, Renamed}
use Rattle.laws.proofs.Shadows.{shadowing, shadows_is}
use Rattle.laws.proofs.Over.{predicate_everything, names_everything}
use Rattle.laws.proofs.Run.{same_run}

-- How many characters each name has; one that is missing has none.
pub count_at : (names : List (List ℕ)) (x : ℕ) → get_or (map (λ s. count_of (characters s)) names) x 0 ≡ count_of (characters (get_or names x []))
unfolding count_of characters
count_at names x = get_or-map (λ s. count_of (characters s)) names x []

-- What is told of each query of a content within this ceiling.
abbrev pub answers : ℕ → Content → List Checked
answers v c = map (λ (a : Ast). check v (describes c).schema a) c.queries

module _ (c : Content) (names : List (List ℕ)) where
  asks : (e : ExprKind) → TermKept c.names names e → AsksAlike everything.predicate (describes c).schema (describes (with_names c names)).schema e
  unfolding describes
  asks (ExprKind.Fuzzy x d) h = count_at c.names x ∙ ap count_of h ∙ sym (count_at names x)
  asks (ExprKind.Fact p e) h = tt
  asks (ExprKind.Lit l) h = tt
  asks (ExprKind.Var x) h = tt
  asks ExprKind.Wildcard h = tt
  asks ExprKind.Never h = tt
  asks (ExprKind.Prefix x) h = tt
  asks (ExprKind.Record fs) h = tt
  asks (ExprKind.Access f e) h = tt
  asks (ExprKind.Disjunction es) h = tt
  asks (ExprKind.Subquery q) h = tt
  asks (ExprKind.Arith es) h = tt
  asks ExprKind.Error h = tt
  asks (ExprKind.Select x e) h = tt

  all_ask : (ns : List Node) → All (λ n. TermKept c.names names n.kind) ns
      → All (λ n. AsksAlike everything.predicate (describes c).schema (describes (with_names c names)).schema n.kind) ns
  all_ask [] h = tt
  all_ask (n ∷ ns) h = (asks n.kind h.0, all_ask ns h.1)

  renamed_same : position (same_text value_text) c.names ≡ position (same_text value_text) names → (ns : List Node)
      → All (λ n. TermKept c.names names n.kind) ns
      → Same everything ns (describes c).schema (describes (with_names c names)).schema
  unfolding describes get
  renamed_same value ns terms = record {
    max_distance = refl;
    max_term_chars = refl;
    nodes = all_ask ns terms;
    names = names_everything ns;
    predicates = λ p h. refl;
    shadows = λ p h. shadows_is (describes c).schema ns p ∙ ap (shadowing (get (describes c).schema p)) value ∙ sym
        (shadows_is (describes (with_names c names)).schema ns p);
    closed = λ p h. predicate_everything (get (describes (with_names c names)).schema p);
  }

  renamed_answers : position (same_text value_text) c.names ≡ position (same_text value_text) names → (v : ℕ) (qs : List Ast)
      → All (λ a. All (λ n. TermKept c.names names n.kind) a.nodes) qs
      → map (λ (a : Ast). check v (describes c).schema a) qs ≡ map (λ (a : Ast). check v (describes (with_names c names)).schema a) qs
  renamed_answers value v [] terms = refl
  renamed_answers value v (a ∷ qs) terms =
      let first = same_run everything (describes c).schema (describes (with_names c names)).schema a (renamed_same value a.nodes terms.0) v in
      let more = renamed_answers value v qs terms.1 in
      cc

-- The same types, diagnostics (in numbers and types) and visits of every query, or it is stopped in both.
pub names_private : (c c' : Content) → Renamed c c' → (v : ℕ) → answers v c ≡ answers v c'
names_private c c' h v = renamed_answers c c'.names h.value v c.queries h.terms ∙ ap (answers v) (sym h.only_names)
