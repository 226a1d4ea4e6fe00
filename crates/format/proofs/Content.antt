-- The files that pass are exactly the writings of lawful contents, and describe their trees. The rules over the frames stand between: a
-- file that passes is frames that obey them (Written.antt), these stand kind by kind (Grouped.antt), and lawful content obeys them (Lawful.antt).
use mathlib.Core.Bool.{true≢false}
use mathlib.Core.List.{List, [], ◌∷◌, ◌++◌, map, flat_map, append-nil, append_assoc}
use mathlib.Core.Logic.{◌↔◌}
use mathlib.Core.Path.{◌≡◌, refl, sym, ap, subst, ◌∙◌}
use Prim.Native.Nat.{ℕ}
use native.Mathlib.Omega.{arith}
use lib.ListN.{length, length-map}
use Rattle.format.specs.Frame.{Edition, Kind, limits, may_stand, kind_byte, Frame, the_limits, a_name, a_type, a_predicate, a_node, the_query, frame_kind}
use Rattle.format.specs.SoFar.{SoFar, start, add}
use Rattle.format.specs.File.{Form, schema_of, describe, described, reading_of}
use Rattle.format.specs.All.{All, Below}
use Rattle.format.specs.References.{optional}
use Rattle.format.specs.Writing.{file_of, Writable}
use Rattle.format.proofs.Obeys.{Obeys, Rules, done, next, Written}
use Rattle.format.specs.Sound.{Kept}
use Rattle.format.specs.Content.{predicate_frame, query_frames, Content, schema_frames, frames_of, Lawful, types_from, predicate_with, describes, Says}
use Rattle.format.proofs.Kept.{kept}
use Rattle.format.proofs.Written.{described_exactly}
use Rattle.format.proofs.Grouped.{Grouped, grouped}
use Rattle.format.proofs.Lawful.{end_of, types_length, lawful_rules}
use Rattle.std.specs.Prelude.{Some}

-- ---- From frames to content

record Held (fs : List Frame) (end : SoFar) : Type 0 where
  content : Content
  are : fs ≡ frames_of content
  names : end.names ≡ content.names
  types : end.types ≡ types_from [] content.types
  predicates : end.predicates ≡ map (predicate_with end.types) content.predicates
  queries : end.queries ≡ content.queries
  distance : end.max_distance ≡ content.max_distance
  term_chars : end.max_term_chars ≡ content.max_term_chars
  lawful : (ed : Edition) → All (Writable ed) fs → Lawful ed content

-- the frames after the limits
after_limits : (d t : ℕ) (fs : List Frame) (end : SoFar) → end.previous ≡ Some Kind.query → Kept end
    → Grouped limits (add start (the_limits d t)) fs end → Held (the_limits d t ∷ fs) end
unfolding add start frames_of schema_frames
after_limits d t fs end e k g =
    let qs = g.tail.queries in
    let c : Content = record { max_distance = d; max_term_chars = t; names = g.names; types = g.types; predicates = g.predicates; queries = qs } in
    let types : length end.types ≡ length g.types = ap length g.end_types ∙ types_length [] g.types ∙ omega arith in
    let predicates : length end.predicates ≡ length g.predicates = ap length g.end_predicates ∙ length-map g.predicates
    (predicate_with end.types) in
    let queries : end.queries ≡ qs = g.tail.end_queries in
    let rest : g.rest ≡ flat_map query_frames qs = g.tail.are ∙ ap (λ l. flat_map query_frames qs ++ map a_node l) (k.closed e) ∙ append-nil
    (flat_map query_frames qs) in
    let are : the_limits d t ∷ fs ≡ frames_of c = ap (λ l. the_limits d t ∷ l)
    (g.are ∙ ap (λ l. map a_name g.names ++ (map a_type g.types ++ (map predicate_frame g.predicates ++ l))) rest ∙ apart
    (map a_name g.names) (map a_type g.types) (map predicate_frame g.predicates) (flat_map query_frames qs)) in
    record {
      content = c;
      are = are;
      names = g.end_names;
      types = g.end_types;
      predicates = g.end_predicates;
      queries = queries;
      distance = g.end_distance;
      term_chars = g.end_term_chars;
      lawful = λ ed w. record {
        names_max = rw g.end_names at k.names_max;
        types_max = rw types at k.types_max;
        predicates_max = rw predicates at k.predicates_max;
        texts = rw g.end_names at k.texts;
        distinct = rw g.end_names at k.distinct;
        type_names = rw g.end_names at g.type_names;
        type_types = g.type_types;
        type_keys = g.type_keys;
        predicate_names = rw g.end_names at g.predicate_names;
        predicate_types = subst (λ n. All (λ p. Below n (p.key ∷ optional p.value)) g.predicates) types g.predicate_types;
        queries = rw (g.end_names, queries) at k.queries;
        queries_min = rw queries at (k.one_ended e);
        queries_max = rw queries at k.queries_max;
        writable = subst (All (Writable ed)) are w;
      };
    }
  where
    apart : {A : Type 0} (a b c d : List A) → a ++ (b ++ (c ++ d)) ≡ (a ++ (b ++ c)) ++ d
    apart a b c d = sym (append_assoc a (b ++ c) d ∙ ap (λ l. a ++ l) (append_assoc b c d))

held : (fs : List Frame) (end : SoFar) → end.previous ≡ Some Kind.query → Rules start fs end → Held fs end
unfolding start add may_stand kind_byte frame_kind
held [] end e done = let w : ◌≡◌ {A = ℕ} 0 1 = cc in absurd (omega arith)
held (f ∷ fs) end e (next o r) = go f (kept (next o r)) o r
  where
    go : (f : Frame) → Kept end → Obeys start f → Rules (add start f) fs end → Held (f ∷ fs) end
    go (the_limits d t) k o r = after_limits d t fs end e k (grouped limits refl r)
    go (a_name s) k o r = absurd (true≢false (sym o.placed))
    go (a_type t) k o r = absurd (true≢false (sym o.placed))
    go (a_predicate n y v) k o r = absurd (true≢false (sym o.placed))
    go (a_node n) k o r = absurd (true≢false (sym o.placed))
    go (the_query x) k o r = absurd (true≢false (sym o.placed))

-- ---- The tree

same_tree : (a b : SoFar) → a.predicates ≡ b.predicates → a.names ≡ b.names → a.max_distance ≡ b.max_distance → a.max_term_chars ≡ b.max_term_chars
    → a.queries ≡ b.queries → describe a ≡ describe b
unfolding describe schema_of
same_tree a b p n d t x = rw (p, n, d, t, x)

end_tree : (c : Content) → describe (end_of c) ≡ describes c
unfolding describe schema_of describes end_of
end_tree c = refl

held_tree : {fs : List Frame} {end : SoFar} (h : Held fs end) → describe end ≡ describes h.content
unfolding end_of
held_tree {end = end} h =
    same_tree end (end_of h.content) (h.predicates ∙ ap (λ ts. map (predicate_with ts) h.content.predicates) h.types) h.names
    h.distance h.term_chars h.queries
    ∙ end_tree h.content

-- ---- The theorem

passes : (ed : Edition) (file : List ℕ) (d : Form) → Written ed file d → Says ed file d
passes ed file d w =
    let h = held w.these w.end w.last w.rules in
    record {
      content = h.content;
      is = w.is ∙ ap (file_of ed) h.are;
      size = w.size;
      lawful = h.lawful ed w.writable;
      tree = w.describes ∙ held_tree h;
    }

accepts : (ed : Edition) (file : List ℕ) (d : Form) → Says ed file d → Written ed file d
unfolding end_of
accepts ed file d s =
    record {
      these = frames_of s.content;
      is = s.is;
      size = s.size;
      writable = s.lawful.writable;
      end = end_of s.content;
      rules = lawful_rules s.content s.lawful;
      last = refl;
      describes = s.tree ∙ sym (end_tree s.content);
    }

-- A file passes 2 to 10 and 13 and describes d exactly where it is the writing of a lawful content that describes d.
pub says_exactly : (ed : Edition) (file : List ℕ) (d : Form) → (reading_of ed file ≡ described d) ↔ Says ed file d
says_exactly ed file d = (λ e. passes ed file d ((described_exactly ed file d).0 e), λ s. (described_exactly ed file d).1 (accepts ed file d s))
