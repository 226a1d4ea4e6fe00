-- The slot of a node holds no type or the type that it was found to be. To write the lines of the nodes from i on is to write
-- them all.
use Rattle.std.proofs.Common.{◌≡◌, ℕ, ◌+◌, ◌*◌, ◌≤◌, ◌<◌, List, [], ◌∷◌, ◌++◌, map, length, get_or, drop, None, Option, Some, refl, ◌∙◌, add-one, arith}
use Rattle.std.proofs.Common.{drop_of_length-le, drop-cons}
use Rattle.std.proofs.Math.ListN.{length-map, get_or-map}
use Rattle.unification.specs.Bindings.{State}
use Rattle.work.specs.Layout.{NODE-COUNT, TYS}
use Rattle.cells.specs.declared.Ty.{Ty}
use Rattle.cells.specs.Words.{slot_w}
use Rattle.cells.specs.Stands.{Rows, Holds}
use Rattle.meaning.specs.Check.{zonked}
use Rattle.format.specs.Bytes.{bytes₂, hex_line}
use Rattle.meaning.specs.Answer.{slot_bytes, node_lines}
use Rattle.writer.specs.Writes.{Writes, Moves, hex_of}
use Rattle.resolving.proofs.Typing.{resolves}
use Rattle.answer.specs.Types.{WritesHexTy}
use Rattle.answer.specs.Lines.{node_bytes, WritesSlot, WritesNodeLine, WritesNodeLines}
use Rattle.writer.proofs.Writing.{writes_moves, full_moves, moves_then, moves_next, Goes}
use Rattle.writer.proofs.Writing.{goes_next, goes_full, goes_done}
use Rattle.writer.proofs.Digits.{hex_then, hex_full, line_then, line_full}

-- ---- A slot
pub slot_none : {w out : List ℕ} {at n : ℕ} {out' : List ℕ} {r : Option ℕ} → slot_w w (TYS + 2 * n) ≡ None → Writes out at (hex_of (255 ∷ [])) out' r
    → WritesSlot w out at n out' r
unfolding slot_bytes zonked
slot_none {w} {out} {at} {n} e f = record { is = λ T st H l. rw (H.types.at n l, e) f; moves = writes_moves f }

pub slot_some : {w out : List ℕ} {at n : ℕ} {out' : List ℕ} {r : Option ℕ} (t : Ty) → slot_w w (TYS + 2 * n) ≡ Some t → WritesHexTy w out at t out' r
    → WritesSlot w out at n out' r
unfolding slot_bytes zonked
slot_some {w} {out} {at} {n} {out'} {r} t e f = record {
  is = λ T st H l. rw (H.types.at n l, e) (f.is T st.subst (resolves H) (rw e at (H.types.ok n l)));
  moves = f.moves;
}

-- ---- A line: the number, the slot and LF
module _ {w out : List ℕ} {at n : ℕ} {mid : List ℕ} {h : Option ℕ} (f : Writes out at (hex_of (7 ∷ bytes₂ n)) mid h) where
  pub number_full : h ≡ None → WritesNodeLine w out at n mid None
  number_full e = record {
    is = λ T st H l. line_full (node_bytes st n) (hex_full _ _ f e) refl;
    moves = full_moves f.long;
  }

  module _ {m : ℕ} (e : h ≡ Some m) {mid' : List ℕ} {r : Option ℕ} (g : WritesSlot w mid m n mid' r) where
    pub slot_full : r ≡ None → WritesNodeLine w out at n mid' None
    slot_full q = record {
      is = λ T st H l. line_full (node_bytes st n) (hex_then _ _ f e (g.is T st H l)) q;
      moves = full_moves (g.moves.long ∙ f.long);
    }

    pub line_ends : {k : ℕ} → r ≡ Some k → {out' : List ℕ} {r' : Option ℕ} → Writes mid' k (10 ∷ []) out' r' → WritesNodeLine w out at n out' r'
    line_ends q c = record {
      is = λ T st H l. line_then (node_bytes st n) (hex_then _ _ f e (g.is T st H l)) q c;
      moves = moves_then (moves_then (writes_moves f) e g.moves) q (writes_moves c);
    }

-- ---- The lines
abbrev lines_from : State → ℕ → List ℕ
lines_from st i = node_lines i (drop i (map (zonked st) st.tys))

lines_cons : (st : State) (i : ℕ) → i < length st.tys → lines_from st i ≡ hex_line (node_bytes st i) ++ lines_from st (i + 1)
unfolding node_lines zonked
lines_cons st i l =
    let long : i < length (map (zonked st) st.tys) = simp length-map l in
    rw (drop-cons (map (zonked st) st.tys) i None long, get_or-map (zonked st) st.tys i None, add-one i)

lines_none : (st : State) (i : ℕ) → length st.tys ≤ i → lines_from st i ≡ []
unfolding node_lines
lines_none st i l = let long : length (map (zonked st) st.tys) ≤ i = simp length-map l in rw (drop_of_length-le (map (zonked st) st.tys) long)

pub record Noding (w out₀ : List ℕ) (at n : ℕ) (out : List ℕ) (i to : ℕ) : Type 0 where
  pub within : i ≤ n
  pub all : n ≡ get_or w NODE-COUNT 0
  pub moves : Moves out₀ at out (Some to)
  pub go : (T : Rows) (st : State) → Holds w T st → get_or w NODE-COUNT 0 ≡ length st.tys → at ≤ length out₀
      → Goes out₀ at (lines_from st 0) out to (lines_from st i)

module _ {w out₀ : List ℕ} {at n : ℕ} {out : List ℕ} {i to : ℕ} (g : Noding w out₀ at n out i to) where
  module _ (l : i < n) {out' : List ℕ} {r : Option ℕ} (f : WritesNodeLine w out to i out' r) where
    pub nodes_next : {m : ℕ} → r ≡ Some m → Noding w out₀ at n out' (i + 1) m
    nodes_next e = record {
      within = omega arith;
      all = g.all;
      moves = moves_next g.moves f.moves e;
      go = λ T st H c b. goes_next (g.go T st H c b) _ _ (lines_cons st i (omega (arith, g.all))) (f.is T st H (omega (arith, g.all))) e;
    }

    pub nodes_full : r ≡ None → WritesNodeLines w out₀ at out' None
    nodes_full e = record {
      is = λ T st H c b. goes_full (g.go T st H c b) _ _ (lines_cons st i (omega (arith, g.all))) (f.is T st H (omega (arith, g.all))) e;
      moves = full_moves (f.moves.long ∙ g.moves.long);
    }

  pub nodes_done : n ≤ i → WritesNodeLines w out₀ at out (Some to)
  nodes_done l = record { is = λ T st H c b. goes_done (g.go T st H c b) (lines_none st i (omega (arith, g.all))); moves = g.moves }
