-- The lines of the diagnostics in the answer slice: one line more, and the steps that leave them as they were.
use mathlib.Core.List.{List, ◌++◌}
use mathlib.Core.Logic.{◌⊎◌, inl, inr}
use mathlib.Core.Path.{◌≡◌, refl, sym, ◌∙◌}
use native.Mathlib.Omega.{arith}
use Prim.Native.Nat.{ℕ, ◌+◌, ◌/◌, ◌%◌, ◌<◌, ◌≤◌}
use lib.ListN.{length, get_or, set, take, drop, length-append, length-set}
use lib.Seq.{get_or-set_same, get_or-set_other, take_at}
use Rattle.work.specs.Layout.{PLACE, PLACE-HIGH, FULL, UNTIL, LEFT, STOP, ENTERED, END}
use Rattle.unification.specs.Bindings.{State}
use Rattle.cells.specs.Stands.{Rows, Holds, Keeps}
use Rattle.cells.proofs.Frame.{keeps_refl, keeps_trans, keeps_set}
use Rattle.format.specs.Syntax.{Span}
use Rattle.format.specs.File.{Described}
use Rattle.meaning.specs.Check.{Until}
use Rattle.writer.specs.Writes.{placed, Writes}
use Rattle.writer.proofs.Writing.{writes_to, writes_over}
use Rattle.tree.specs.Nodes.{line_start_w}
use Rattle.tree.specs.Stands.{Stands}
use Rattle.messages.specs.declared.Message.{Message}
use Rattle.messages.specs.Said.{OkMessage}
use Rattle.state.specs.declared.Until as Stop
use Rattle.cells.specs.declared.Ty.{Ty}
use Rattle.state.specs.Lines.{UntilIs, at_end, at_diagnostic, at_entry, Halts, goes_on, ends_here, Enters, enters, enters_before, stops_here, entered_w}
use Rattle.state.specs.Lines.{sides_w, AFTER-FULL, place_w, set_place_w, SpanAt, diagnosed, line_of, WritesBothLines, Lines, within, beyond, Keeping, Tells}
use Rattle.state.specs.Lines.{AFTER-SIDES}
use Rattle.std.specs.Prelude.{None, Option, Some}

-- ---- The words of the lines are as they were
pub record Unlined (w w' : List ℕ) : Type 0 where
  pub at : (i : ℕ) → PLACE ≤ i → i < AFTER-SIDES → get_or w' i 0 ≡ get_or w i 0

pub unlined_trans : {u v w : List ℕ} → Unlined u v → Unlined v w → Unlined u w
unlined_trans p q = record { at = λ i l h. q.at i l h ∙ p.at i l h }

pub lines_same : {w w' o s : List ℕ} → ((i : ℕ) → PLACE ≤ i → i < AFTER-FULL → get_or w' i 0 ≡ get_or w i 0) → Lines w o s → Lines w' o s
lines_same at (within f p l t) =
    within (at FULL (omega arith) (omega arith) ∙ f) (omega (arith, p, at PLACE (omega arith) (omega arith), at PLACE-HIGH (omega arith) (omega arith))) l t
lines_same at (beyond f l) = beyond (at FULL (omega arith) (omega arith) ∙ f) l

pub told_same : {w w' o s : List ℕ} {u : Until} {m l : ℕ} → Unlined w w' → Keeping w o s u m l → Keeping w' o s u m l
told_same U t = record {
  lines = lines_same (λ i l h. U.at i l (omega arith)) t.lines;
  until = U.at UNTIL (omega arith) (omega arith) ∙ t.until;
  stop = U.at STOP (omega arith) (omega arith) ∙ t.stop;
  entered = U.at ENTERED (omega arith) (omega arith) ∙ t.entered;
  left = U.at LEFT (omega arith) (omega arith) ∙ t.left;
}

-- ---- A text more, behind the bytes so far

module _ (w : List ℕ) (at : ℕ) where
  place_keeps : Keeps PLACE AFTER-FULL w (set_place_w w at)
  place_keeps = keeps_trans (keeps_set w PLACE (at % 4294967296) (omega arith) (omega arith))
      (keeps_set (set w PLACE (at % 4294967296)) PLACE-HIGH (at / 4294967296) (omega arith) (omega arith))

  place_full : get_or (set_place_w w at) FULL 0 ≡ get_or w FULL 0
  place_full = get_or-set_other (set w PLACE (at % 4294967296)) PLACE-HIGH FULL (at / 4294967296) 0 (λ q. omega arith)
      ∙ get_or-set_other w PLACE FULL (at % 4294967296) 0 (λ q. omega arith)

  place_now : END ≤ length w → place_w (set_place_w w at) ≡ at
  place_now long =
      let low : get_or (set_place_w w at) PLACE 0 ≡ at % 4294967296 =
      get_or-set_other (set w PLACE (at % 4294967296)) PLACE-HIGH PLACE (at / 4294967296) 0 (λ q. omega arith)
      ∙ get_or-set_same w PLACE (at % 4294967296) 0 (omega arith) in
      let high : get_or (set_place_w w at) PLACE-HIGH 0 ≡ at / 4294967296 =
      get_or-set_same (set w PLACE (at % 4294967296)) PLACE-HIGH (at / 4294967296) 0 (omega (arith, length-set w PLACE (at % 4294967296))) in
      omega (arith, low, high)

placed_taken : (s x o : List ℕ) → take (length s) o ≡ s → take (length (s ++ x)) (placed (length s) x o) ≡ s ++ x
unfolding placed
placed_taken s x o t = rw t (take_at (s ++ x) (drop (length s + length x) o) (length (s ++ x)) refl)

module _ {w o s x : List ℕ} {o' : List ℕ} {r : Option ℕ} (free : get_or w FULL 0 ≡ 0) (f : Writes o (place_w w) x o' r) (long : END ≤ length w) where
  lines_behind : {m : ℕ} → r ≡ Some m → Lines w o s → Lines (set_place_w w m) o' (s ++ x)
  lines_behind {m} e (within q p l t) =
      let h = writes_to f e in
      let n : length (s ++ x) ≡ length s + length x = length-append s x in
      let o_is : o' ≡ placed (length s) x o = rw p at (f.fits (omega (arith, h.0, h.1))).1 in
      within (place_full w m ∙ free) (place_now w m long ∙ omega (arith, h.0, p, n))
      (omega (arith, h.0, h.1, p, n, f.long)) (rw o_is (placed_taken s x o t))
  lines_behind e (beyond q l) = absurd (omega (arith, free, q))

  lines_over : r ≡ None → Lines w o s → Lines (set w FULL 1) o' (s ++ x)
  lines_over e (within q p l t) =
      let n : length (s ++ x) ≡ length s + length x = length-append s x in
      beyond (get_or-set_same w FULL 1 0 (omega arith)) (omega (arith, writes_over f e, p, n, f.long))
  lines_over e (beyond q l) = absurd (omega (arith, free, q))

lines_full : {w o s : List ℕ} (x : List ℕ) → ¬ (get_or w FULL 0 ≡ 0) → Lines w o s → Lines w o (s ++ x)
lines_full x some (within q p l t) = absurd (some q)
lines_full {s = s} x some (beyond q l) = let n : length (s ++ x) ≡ length s + length x = length-append s x in beyond q (omega (arith, n))

-- ---- `tell`
module _ {f w o : List ℕ} {n : ℕ} {m : Message} {full : ℕ} (p : full ≡ get_or w FULL 0) where
  module _ (free : full ≡ 0) {at : ℕ} (q : at ≡ place_w w) {o' : List ℕ} {r : Option ℕ} (g : WritesBothLines f w o at n m o' r) where
    text : (T : Rows) (d : Described) (st : State) (x : Span) → Stands f w T d → Holds w T st → OkMessage w m → SpanAt f (line_start_w w n) x
        → Writes o (place_w w) (line_of d (diagnosed T st.subst m x)) o' r
    text T d st x S H ok t = rw q at (g.is T d st x S H ok t)

    pub told : {e : ℕ} {w' : List ℕ} → r ≡ Some e → w' ≡ set_place_w w e → Tells f w o n m w' o'
    told {e} is k = rw k record {
      lines = λ T d st s x S H ok t L. lines_behind (sym p ∙ free) (text T d st x S H ok t) S.long is L;
      keeps = place_keeps w e;
      long = g.long;
    }

    pub no_room : {w' : List ℕ} → r ≡ None → w' ≡ set w FULL 1 → Tells f w o n m w' o'
    no_room is k = rw k record {
      lines = λ T d st s x S H ok t L. lines_over (sym p ∙ free) (text T d st x S H ok t) S.long is L;
      keeps = keeps_set w FULL 1 (omega arith) (omega arith);
      long = g.long;
    }

  pub was_full : ¬ (full ≡ 0) → Tells f w o n m w o
  was_full some = record { lines = λ T d st s x S H ok t L. lines_full _ (λ z. some (p ∙ z)) L; keeps = keeps_refl; long = refl }

-- ---- What ends the run early
pub halts : {w : List ℕ} {u : Stop.Until} → UntilIs w u → u ≡ Stop.Until.FirstDiagnostic → {left : ℕ} → Halts w left (set w LEFT left) None
halts (at_end a b) e = absurd (cc)
halts (at_diagnostic h) e = ends_here h
halts (at_entry h l) e = absurd (cc)

pub halts_not : {w : List ℕ} {u : Stop.Until} → UntilIs w u → ¬ (u ≡ Stop.Until.FirstDiagnostic) → {left : ℕ} → Halts w left w (Some left)
halts_not (at_end a b) n = goes_on a
halts_not (at_diagnostic h) n = absurd (n refl)
halts_not (at_entry h l) n = goes_on (λ e. omega (arith, h, e))

pub stops : {w : List ℕ} {u : Stop.Until} {s : ℕ} → UntilIs w u → u ≡ Stop.Until.Entry s → s ≤ get_or w ENTERED 0 → {g x : Ty} {left : ℕ}
    → Enters w g x left (sides_w (entered_w w) g x left) None
stops (at_end a b) e m = absurd (cc)
stops (at_diagnostic h) e m = absurd (cc)
stops {w} {s = s} (at_entry h l) e m = let q : get_or w STOP 0 ≡ s = cc in stops_here h (omega (arith, q, m))

pub stops_later : {w : List ℕ} {u : Stop.Until} {s : ℕ} → UntilIs w u → u ≡ Stop.Until.Entry s → get_or w ENTERED 0 < s → {g x : Ty} {left : ℕ}
    → Enters w g x left (entered_w w) (Some left)
stops_later (at_end a b) e m = enters b
stops_later (at_diagnostic h) e m = enters (λ q. omega (arith, h, q))
stops_later {w} {s = s} (at_entry h l) e m = let q : get_or w STOP 0 ≡ s = cc in enters_before (omega (arith, q, m)) l

pub stops_not : {w : List ℕ} {u : Stop.Until} → UntilIs w u → (u ≡ Stop.Until.TheEnd) ⊎ (u ≡ Stop.Until.FirstDiagnostic) → {g x : Ty} {left : ℕ}
    → Enters w g x left (entered_w w) (Some left)
stops_not (at_end a b) e = enters b
stops_not (at_diagnostic h) e = enters (λ q. omega (arith, h, q))
stops_not (at_entry h l) (inl e) = absurd (cc)
stops_not (at_entry h l) (inr e) = absurd (cc)
