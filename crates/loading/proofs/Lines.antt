-- What lies ahead of a place: a line there is the first of the frames, and a query ahead means that the file has not ended.
use mathlib.Core.List.{List, [], ◌∷◌, ◌++◌, map, flat_map, head-eq_of_cons-eq, tail-eq_of_cons-eq}
use mathlib.Core.Path.{◌≡◌, refl, sym, ap, ◌∙◌}
use Prim.Native.Nat.{ℕ, ◌+◌, ◌*◌, ◌≤◌, ◌<◌}
use native.Mathlib.Decide.{dec_le}
use native.Mathlib.Omega.{arith}
use lib.ListN.{length, get_or, drop}
use Rattle.format.specs.Syntax.{Node, Ast}
use Rattle.format.specs.Lines.{Line, lines}
use Rattle.format.specs.Frame.{wide, Kind, kind_byte, kind_of, Frame, a_node, the_query, frame_kind, frame_of}
use Rattle.format.specs.SoFar.{frames, said_of, said_in, said_by, said}
use Rattle.format.specs.File.{Form, described, reading, max_file}
use Rattle.format.specs.Content.{query_frames}
use Rattle.format.proofs.Written.{kind_byte_lem}
use Rattle.format.proofs.Places.{lined}
use Rattle.format.proofs.Sound.{some_queries}
use Rattle.sigla_hex.specs.Digits.{first_line, line_at}
use Rattle.sigla_hex.proofs.Line.{lines_at_end, lines_split}
use Rattle.frames.specs.Promises.{BytesAt}
use Rattle.frames.proofs.Passing.{bytes_at}
use Rattle.reading.proofs.AnyLine.{frame_kind_lem}
use Rattle.loading.specs.Promises.{Ahead}
use Rattle.std.specs.Prelude.{None, Option, Some}

-- ---- One line

-- The bytes of a line that says a frame.
pub record IsFrame (s : List ℕ) (g : Frame) : Type 0 where
  pub content : List ℕ
  pub first : s ≡ kind_byte (frame_kind g) ∷ content
  pub is : frame_of wide (frame_kind g) content ≡ Some g
  pub kind : kind_of (get_or s 0 0) ≡ Some (frame_kind g)

pub is_frame_lem : (s : List ℕ) (g : Frame) → said_by wide (Some s) ≡ frames g → IsFrame s g
unfolding said_by said_in said_of
is_frame_lem [] g e = let z : ◌≡◌ {A = ℕ} 0 1 = cc in absurd (omega arith)
is_frame_lem (b ∷ t) g e = kinds (kind_of b) refl e
  where
    made : (k : Kind) → kind_of b ≡ Some k → frame_of wide k t ≡ Some g → (frame_kind g ≡ k) → IsFrame (b ∷ t) g
    made k q x same = record {
      content = t;
      first = ap (λ c. c ∷ t) (kind_byte_lem b k q ∙ ap kind_byte (sym same));
      is = rw same x;
      kind = rw same q;
    }

    says : (k : Kind) → kind_of b ≡ Some k → (o : Option Frame) → frame_of wide k t ≡ o → said_of k o ≡ frames g → IsFrame (b ∷ t) g
    says k q None x c = let z : ◌≡◌ {A = ℕ} 0 1 = cc in absurd (omega arith)
    says k q (Some h) x c = let same : h ≡ g = cc in let y : frame_of wide k t ≡ Some g = x ∙ ap Some same in made k q y (frame_kind_lem wide k t g y)

    kinds : (o : Option Kind) → kind_of b ≡ o → said_in wide o t ≡ frames g → IsFrame (b ∷ t) g
    kinds None q c = let z : ◌≡◌ {A = ℕ} 0 1 = cc in absurd (omega arith)
    kinds (Some k) q c = says k q (frame_of wide k t) refl c

-- The line at a place says the frame, and the others follow it.
pub record LineAhead (f : List ℕ) (at : ℕ) (g : Frame) (gs : List Frame) : Type 0 where
  pub line : List ℕ
  pub bytes : BytesAt f at line (length line) (at + 2 * length line + 1)
  pub frame : IsFrame line g
  pub later : map (said wide) (lines (drop (at + 2 * length line + 1) f)) ≡ map frames gs

first_said : (ls : List Line) (g : Frame) (gs : List Frame) → map (said wide) ls ≡ frames g ∷ map frames gs → said_by wide (first_line ls) ≡ frames g
unfolding said first_line
first_said [] g gs q = let z : ◌≡◌ {A = ℕ} 0 1 = cc in absurd (omega arith)
first_said (l ∷ ls) g gs q = head-eq_of_cons-eq q

pub line_ahead : (f : List ℕ) (at : ℕ) (g : Frame) (gs : List Frame) → map (said wide) (lines (drop at f)) ≡ frames g ∷ map frames gs → LineAhead f at g gs
unfolding said_by line_at
line_ahead f at g gs e = go (line_at f at) refl (first_said (lines (drop at f)) g gs e)
  where
    go : (o : Option (List ℕ)) → line_at f at ≡ o → said_by wide o ≡ frames g → LineAhead f at g gs
    go None q c = let z : ◌≡◌ {A = ℕ} 0 1 = cc in absurd (omega arith)
    go (Some s) q c =
        let bytes = bytes_at f at s q in
        record { line = s; bytes = bytes; frame = is_frame_lem s g c; later = tail-eq_of_cons-eq (sym (ap (map (said wide)) bytes.splits) ∙ e) }

-- ---- The end of the file

pub not_ended : (f : List ℕ) (at : ℕ) (g : Frame) (gs : List Frame) → map (said wide) (lines (drop at f)) ≡ frames g ∷ map frames gs → at < length f
not_ended f at g gs e = go (dec_le (length f) at)
  where
    go : Dec (length f ≤ at) → at < length f
    go (no l) = omega arith
    go (yes l) = let none_left : map (said wide) [] ≡ frames g ∷ map frames gs = ap (map (said wide)) (sym (lines_at_end f at l)) ∙ e in let z : ◌≡◌
        {A = ℕ} 0 1 = cc in absurd (omega arith)

pub is_ended : (f : List ℕ) (at : ℕ) → map (said wide) (lines (drop at f)) ≡ [] → length f ≤ at
is_ended f at e = go (dec_le (length f) at)
  where
    go : Dec (length f ≤ at) → length f ≤ at
    go (yes l) = l
    go (no l) = let some_left = ap (map (said wide)) (sym (lines_split f at (omega arith))) ∙ e in let z : ◌≡◌ {A = ℕ} 0 1 = cc in absurd (omega arith)

-- ---- Queries ahead

-- A described file has its queries ahead at its start.
pub all_ahead : (f : List ℕ) (form : Form) → length f ≤ max_file → reading f ≡ described form → Ahead f 0 form.queries
all_ahead f form small e =
    let l = lined f form e in
    record {
      small = small;
      schema = l.schema;
      early = l.early;
      are = l.are;
      ended = λ none_left. let Some = (some_queries f form e).0 in let long : length form.queries ≡ 0 = ap length none_left in absurd (omega arith);
    }

-- Where a query lies ahead, the file goes on.
pub query_ahead : {f : List ℕ} {at : ℕ} {a : Ast} {qs : List Ast} → Ahead f at (a ∷ qs) → at < length f
unfolding query_frames flat_map
query_ahead {f} {at} {a} {qs} h = go h.schema a.nodes h.are
  where
    go : (schema : List Frame) (nodes : List Node) → map (said wide) (lines (drop at f)) ≡ map frames
        (schema ++ (map a_node nodes ++ the_query a.query ∷ [] ++ flat_map query_frames qs)) → at < length f
    go (g ∷ schema) nodes e = not_ended f at g (schema ++ (map a_node nodes ++ the_query a.query ∷ [] ++ flat_map query_frames qs)) e
    go [] (n ∷ nodes) e = not_ended f at (a_node n) (map a_node nodes ++ the_query a.query ∷ [] ++ flat_map query_frames qs) e
    go [] [] e = not_ended f at (the_query a.query) (flat_map query_frames qs) e
