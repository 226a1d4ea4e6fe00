-- Every name in a message of an accepted file has a text there: its nodes, types and predicates refer to names that are there (refusal 9), and
-- a run says nothing else.
use mathlib.Core.List.{List, ◌++◌}
use mathlib.Core.Path.{◌≡◌, refl, sym, subst}
use Prim.Native.Nat.{ℕ}
use lib.ListN.{length}
use Rattle.unification.specs.Ty.{Int, String, Bytes, Fact}
use Rattle.format.specs.All.{All}
use Rattle.format.specs.Syntax.{Ast}
use Rattle.format.specs.Frame.{TypeShape, a_leaf, a_record, a_union}
use Rattle.meaning.specs.Diag.{Message}
use Rattle.meaning.specs.Messages.{message_text, text_in}
use Rattle.meaning.specs.Check.{Checked, typed, exhausted, check}
use Rattle.format.specs.File.{Form, described, reading}
use Rattle.format.specs.Frame.{wide}
use Rattle.format.specs.Sound.{LawfulQuery}
use Rattle.format.specs.Content.{Content, Lawful, describes}
use Rattle.meaning.specs.Outcome.{max_visits}
use Rattle.format.proofs.Lists.{all_map}
use Rattle.format.proofs.Content.{says_exactly}
use Rattle.laws.specs.Over.{MessageOver, CheckedOver}
use Rattle.laws.specs.Growth.{ShapeFacts}
use Rattle.laws.specs.Marks.{of_file, NoMark}
use Rattle.laws.proofs.Over.{all_of}
use Rattle.laws.proofs.Run.{told_over, same_self}
use Rattle.laws.proofs.Described.{content_over, content_named}
use Rattle.laws.proofs.Texts.{at_append, fact_append, text_same}

every_shape : (P : ℕ → Type 0) → ((p : ℕ) → P p) → (s : TypeShape) → ShapeFacts P s
every_shape P h (a_leaf Int) = tt
every_shape P h (a_leaf String) = tt
every_shape P h (a_leaf Bytes) = tt
every_shape P h (a_leaf (Fact p)) = h p
every_shape P h (a_record fs) = tt
every_shape P h (a_union alts) = tt

module _ (c : Content) (l : Lawful wide c) where
  content_query : (a : Ast) → LawfulQuery (length c.names) a → CheckedOver (of_file (describes c)) (check max_visits (describes c).schema a)
  unfolding describes
  content_query a q =
      let s = (describes c).schema in
      let named = content_named c l.predicate_names in
      told_over (of_file (describes c)) s s a
      (same_self (of_file (describes c)) s a.nodes named q.node_names
      (content_over (of_file (describes c)) c (all_of _ (every_shape _ named) c.types) l.type_names)) max_visits

  content_over_names : All (λ a. CheckedOver (of_file (describes c)) (check max_visits (describes c).schema a)) (describes c).queries
  unfolding describes
  content_over_names = all_map (LawfulQuery (length c.names)) _ c.queries content_query l.queries

-- Every name number in a message of a run is one of the file's, and every predicate there is absent or has one of the file's names.
pub over_names : (file : List ℕ) (f : Form) → reading file ≡ described f → All (λ a. CheckedOver (of_file f) (check max_visits f.schema a)) f.queries
over_names file f read =
    let says = (says_exactly wide file f).0 read in
    subst (λ (x : Form). All (λ a. CheckedOver (of_file x) (check max_visits x.schema a)) x.queries) (sym says.tree)
    (content_over_names says.content says.lawful)

message_within : (f : Form) (m : Message) → MessageOver (of_file f) m → (more : List (List ℕ)) → text_in f m ≡ message_text (f.names ++ more) f.schema m
message_within f m h more = text_same (of_file f) f.names (f.names ++ more) f.schema f.schema (record {
  max_distance = refl;
  max_term_chars = refl;
  texts = λ x i. at_append f.names more x i;
  facts = λ p i. fact_append f.names more f.schema f.schema p refl i;
}) m h

checked_within : (f : Form) (c : Checked) → CheckedOver (of_file f) c → NoMark f c
checked_within f (typed t) h = all_map (λ d. MessageOver (of_file f) d.message) _ t.diagnostics (λ d i. message_within f d.message i) h
checked_within f exhausted h = tt

-- "?" is shown by no accepted file.
pub no_mark : (file : List ℕ) (f : Form) → reading file ≡ described f → All (λ a. NoMark f (check max_visits f.schema a)) f.queries
no_mark file f read =
    all_map (λ a. CheckedOver (of_file f) (check max_visits f.schema a)) _ f.queries (λ a h. checked_within f (check max_visits f.schema a) h)
    (over_names file f read)
