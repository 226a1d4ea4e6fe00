-- What holds of every described file, from what the rules keep.
use mathlib.Core.List.{List, [], ◌∷◌, map}
use mathlib.Core.Path.{◌≡◌}
use Prim.Native.Nat.{ℕ, zero, suc, ◌+◌, ◌<◌, ◌≤◌}
use native.Mathlib.Nat.{not-suc-le-zero, le_of_suc-le-suc, zero-add, add-zero, add-suc, suc-add}
use lib.ListN.{length, get_or, length-map}
use Rattle.text.specs.Utf8.{characters}
use Rattle.format.specs.Syntax.{Node, Ast, no_node, node_at}
use Rattle.format.specs.References.{expr_nodes}
use Rattle.format.specs.SoFar.{SoFar, Said, start}
use Rattle.format.specs.Frame.{wide}
use Rattle.format.specs.File.{Form, view_of, no_ast, view_at, count_of, schema_of, describe, described, reading}
use Rattle.format.specs.Conditions.{max_queries}
use Rattle.format.specs.All.{All}
use Rattle.format.specs.Refused.{Pass}
use Rattle.format.specs.Sound.{Lower, LawfulQuery, Kept, Sound}
use Rattle.format.proofs.Refused.{described_when}
use Rattle.format.proofs.Lists.{all_map, all_at}
use Rattle.format.proofs.Frames.{pass_rules}
use Rattle.format.proofs.Kept.{kept}

-- Lines that pass keep it all; `types` among it, every schema type of the file.
pub pass_kept : {end : SoFar} {ls : List Said} → Pass start ls end → Kept end
pass_kept p = kept (pass_rules p).rules

sound_query : (end : SoFar) (a : Ast) → Kept end → LawfulQuery (length end.names) a → Sound (view_of (describe end) a)
unfolding describe schema_of view_of
sound_query end a k q =
    record {
      names_max = rw counted k.names_max;
      predicates_max = k.predicates_max;
      nodes_max = q.nodes_max;
      predicates = k.predicates;
      lower = q.node_nodes;
      names_below = rw counted q.node_names;
      once = q.once;
      query = q.query_below;
    }
  where
    counted : length (map (λ s. count_of (characters s)) end.names) ≡ length end.names
    counted = length-map end.names (λ s. count_of (characters s))

sound_end : (end : SoFar) → Kept end → All (λ a. Sound (view_of (describe end) a)) (describe end).queries
unfolding describe
sound_end end k = all_map (LawfulQuery (length end.names)) (λ a. Sound (view_of (describe end) a)) end.queries (λ a q. sound_query end a k q) k.queries

-- Each query of a described file, with the schema.
pub sound : (file : List ℕ) (f : Form) → reading file ≡ described f → All (λ a. Sound (view_of f a)) f.queries
sound file f e =
    let a = described_when wide file f e in
    rw a.is (sound_end a.end (pass_kept a.pass))

pub sound_at : (file : List ℕ) (f : Form) → reading file ≡ described f → (k : ℕ) → k < length f.queries → Sound (view_at f k)
unfolding view_at
sound_at file f e k h = all_at (λ a. Sound (view_of f a)) f.queries k no_ast (sound file f e) h

-- There is one, and there are no more than 64.
pub some_queries : (file : List ℕ) (f : Form) → reading file ≡ described f → (1 ≤ length f.queries) × (length f.queries ≤ max_queries)
unfolding describe
some_queries file f e =
    let a = described_when wide file f e in
    let k = pass_kept a.pass in
    rw a.is (k.one_ended a.last, k.queries_max)

-- By number: what a node names is below it.
lower_from : (i : ℕ) (ns : List Node) (n : ℕ) (d : Node) → Lower i ns → n < length ns → All (λ m. m < i + n) (expr_nodes (get_or ns n d).kind)
lower_from i [] n d l h = absurd (not-suc-le-zero h)
lower_from i (x ∷ ns) zero d l h = rw add-zero l.0
lower_from i (x ∷ ns) (suc n) d l h = rw (add-suc, ← suc-add i n) (lower_from (suc i) ns n d l.1 (le_of_suc-le-suc h))

pub lower_at : (ns : List Node) (n : ℕ) → Lower 0 ns → n < length ns → All (λ m. m < n) (expr_nodes (node_at ns n).kind)
unfolding node_at
lower_at ns n l h = rw zero-add at (lower_from 0 ns n no_node l h)
