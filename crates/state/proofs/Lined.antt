-- A diagnostic more, and its line, in a run; and the steps that leave the lines as they were.
use mathlib.Core.List.{List, [], ◌∷◌, ◌++◌, append_assoc, append-nil}
use mathlib.Core.Path.{◌≡◌, refl, sym, ◌∙◌, ap}
use native.Mathlib.Omega.{arith}
use Prim.Native.Nat.{ℕ, ◌<◌, ◌≤◌}
use lib.ListN.{length, get_or, set}
use lib.Seq.{get_or-set_same}
use Rattle.work.specs.Layout.{ENV-LEN, DIAGNOSTIC-COUNT, UNKNOWNS, PLACE, PLACE-HIGH, FULL, UNTIL, LEFT, STOP, ENTERED, MARK-COUNT, UNUSED-COUNT}
use Rattle.cells.specs.Stands.{Rows, Keeps}
use Rattle.cells.proofs.Frame.{keeps_refl, keeps_wider, keeps_set}
use Rattle.cells.proofs.Elsewhere.{SameState}
use Rattle.format.specs.Syntax.{node_at}
use Rattle.meaning.specs.Diag as Diag
use Rattle.meaning.specs.Diag.{Diagnostic}
use Rattle.format.specs.Sound.{Sound}
use Rattle.format.specs.File.{Described}
use Rattle.meaning.specs.Check.{Checker, first_diagnostic, with_diagnostics, reversed}
use Rattle.meaning.specs.Messages.{message_text}
use Rattle.meaning.specs.Answer.{diagnostic_line, diagnostic_lines}
use Rattle.messages.specs.declared.Message.{Message}
use Rattle.messages.specs.Said.{OkMessage}
use Rattle.state.specs.Words.{counted_w}
use Rattle.state.specs.Runs.{Runs, Grew}
use Rattle.state.specs.Lines.{AFTER-SIDES, diagnosed, Lines, within, until_w, Told, Halts, goes_on, ends_here, Rejected}
use Rattle.state.proofs.Running.{grew_trans, same_grew, Unscoped, scopes_same, runs_aside}
use Rattle.state.proofs.Reporting.{count_other, count_runs, count_grew}
use Rattle.state.proofs.Telling.{span_at}
use Rattle.state.proofs.Lining.{Unlined, lines_same, told_same}
use Rattle.std.specs.Prelude.{None, Option, Some}

pub keeps_unlined : {a e : ℕ} {w w' : List ℕ} → AFTER-SIDES ≤ a → Keeps a e w w' → Unlined w w'
keeps_unlined h K = record { at = λ i l k. K.below i (omega arith) }

-- ---- Words of the lines alone changed
module _ {f w w' : List ℕ} {T : Rows} {d : Described} {c : Checker} (sound : Sound d) (R : Runs f w T d c) (K : Keeps PLACE AFTER-SIDES w w') where
  place_aside : SameState w w'
  place_aside = record {
    cells = record {
      said = λ i h. K.below i (omega arith);
      made = λ i l h. K.above i (omega arith);
      unknowns = omega (arith, K.below UNKNOWNS (omega arith));
    };
    slots = record { unknowns = K.below UNKNOWNS (omega arith); at = λ i l h. K.above i (omega arith); long = K.long };
  }

  pub place_runs : Runs f w' T d c
  place_runs =
      let count = K.below DIAGNOSTIC-COUNT (omega arith) in
      let quiet : Unscoped w w' = record {
        env = K.below ENV-LEN (omega arith);
        marks = K.above MARK-COUNT (omega arith);
        unused = K.above UNUSED-COUNT (omega arith);
        at = λ i l h. K.above i (omega arith);
      } in
      runs_aside sound R place_aside refl (scopes_same quiet refl refl refl R.scopes)
      (R.diagnostics ∙ sym count)
      (omega (arith, count, R.few_diagnostics))

  pub place_grew : Grew w w' 0 0
  place_grew = same_grew R.holds place_aside.cells (keeps_wider (omega arith) (omega arith) K)

-- ---- The newest diagnostic is the first of the list, and its line the last
reversed_onto : {A : Type 0} (xs ys : List A) → reversed xs ys ≡ reversed xs [] ++ ys
unfolding reversed
reversed_onto [] ys = refl
reversed_onto {A} (x ∷ xs) ys = reversed_onto xs (x ∷ ys) ∙ sym (append_assoc (reversed xs []) (x ∷ []) ys)
    ∙ ap (λ (l : List A). l ++ ys) (sym (reversed_onto xs (x ∷ [])))

module _ (text : Diag.Message → List ℕ) where
  lines_append : (ds es : List Diagnostic) → diagnostic_lines text (ds ++ es) ≡ diagnostic_lines text ds ++ diagnostic_lines text es
  unfolding diagnostic_lines
  lines_append [] es = refl
  lines_append (d ∷ ds) es = ap (λ (l : List ℕ). diagnostic_line text d ++ l) (lines_append ds es)
      ∙ sym (append_assoc (diagnostic_line text d) (diagnostic_lines text ds) (diagnostic_lines text es))

  line_last : (d : Diagnostic) (ds : List Diagnostic)
      → diagnostic_lines text (reversed (d ∷ ds) []) ≡ diagnostic_lines text (reversed ds []) ++ diagnostic_line text d
  unfolding reversed diagnostic_lines
  line_last d ds =
      ap (diagnostic_lines text) (reversed_onto ds (d ∷ [])) ∙ lines_append (reversed ds []) (d ∷ [])
      ∙ ap (λ (l : List ℕ). diagnostic_lines text (reversed ds []) ++ l) (append-nil (diagnostic_line text d))

-- ---- `reject`
halts_keeps : {w w' : List ℕ} {left : ℕ} {r : Option ℕ} → Halts w left w' r → Keeps PLACE AFTER-SIDES w w'
halts_keeps (goes_on q) = keeps_refl
halts_keeps {w} {left = left} (ends_here q) = keeps_set w LEFT left (omega arith) (omega arith)

module _ {f w o w' o' : List ℕ} {T : Rows} {d : Described} {c : Checker} (sound : Sound d) (R : Runs f w T d c)
    {n : ℕ} {m : Message} {left : ℕ} {r : Option ℕ} (X : Rejected f w o n m left w' o' r) (room : get_or w DIAGNOSTIC-COUNT 0 < 1536) where
  newest : Diagnostic
  newest = diagnosed T c.state.subst m (node_at d.ast.nodes n).span

  abbrev after : Checker
  after = with_diagnostics c (diagnosed T c.state.subst m (node_at d.ast.nodes n).span ∷ c.diagnostics)

  told_keeps : Keeps PLACE AFTER-SIDES w X.between
  told_keeps = keeps_wider (omega arith) (omega arith) X.tells.keeps

  mid : Runs f X.between T d c
  mid = place_runs sound R told_keeps

  mid_room : get_or X.between DIAGNOSTIC-COUNT 0 < 1536
  mid_room = omega (arith, X.tells.keeps.below DIAGNOSTIC-COUNT (omega arith))

  counted_runs : Runs f (counted_w X.between) T d after
  unfolding newest
  counted_runs = count_runs sound mid newest mid_room

  pub rejected_runs : Runs f w' T d after
  rejected_runs = place_runs sound counted_runs (halts_keeps X.halts)

  pub rejected_grew : Grew w w' 0 0
  rejected_grew =
      grew_trans (grew_trans (place_grew sound R told_keeps) (count_grew sound mid newest mid_room)) (place_grew sound counted_runs (halts_keeps X.halts))

  module _ (there : n < length d.ast.nodes) (ok : OkMessage w m) (L : Told d w o c 0) where
    counted_told : Told d (counted_w X.between) o' after 0
    unfolding newest with_diagnostics
    counted_told = told_same {w = X.between} (record { at = λ i l h. count_other X.between mid_room i (λ q. omega arith) }) (record {
      lines = rw (line_last (message_text d.names d.schema) newest c.diagnostics)
          (X.tells.lines T d c.state (diagnostic_lines (message_text d.names d.schema) (reversed c.diagnostics [])) (node_at d.ast.nodes n).span
          R.stands R.holds ok (span_at f w n (node_at d.ast.nodes n) (R.stands.node n there)) L.lines);
      until = X.tells.keeps.above UNTIL (omega arith) ∙ L.until;
      stop = X.tells.keeps.above STOP (omega arith) ∙ L.stop;
      entered = X.tells.keeps.above ENTERED (omega arith) ∙ L.entered;
      left = X.tells.keeps.above LEFT (omega arith) ∙ L.left;
    })

    -- The run goes on.
    pub rejected_on : ¬ (until_w c.until ≡ 1) → (r ≡ Some left) × Told d w' o' after 0
    unfolding with_diagnostics
    rejected_on q = go X.halts
      where
        go : {w' : List ℕ} {r : Option ℕ} → Halts (counted_w X.between) left w' r → (r ≡ Some left) × Told d w' o' after 0
        go (goes_on z) = (refl, counted_told)
        go (ends_here z) = absurd (q (sym counted_told.until ∙ z))

    -- It was to last until here.
    pub rejected_out : c.until ≡ first_diagnostic → (r ≡ None) × Told d w' o' after left
    unfolding with_diagnostics
    rejected_out q = go X.halts
      where
        one : get_or (counted_w X.between) UNTIL 0 ≡ 1
        one = rw q at counted_told.until

        go : {w' : List ℕ} {r : Option ℕ} → Halts (counted_w X.between) left w' r → (r ≡ None) × Told d w' o' after left
        go (goes_on z) = absurd (z one)
        go (ends_here z) =
            let K : Keeps LEFT STOP (counted_w X.between) (set (counted_w X.between) LEFT left) = keeps_set (counted_w X.between) LEFT left
            (omega arith) (omega arith) in (
              refl,
              record {
                lines = lines_same (λ i l h. K.below i (omega arith)) counted_told.lines;
                until = K.below UNTIL (omega arith) ∙ counted_told.until;
                stop = K.above STOP (omega arith) ∙ counted_told.stop;
                entered = K.above ENTERED (omega arith) ∙ counted_told.entered;
                left = get_or-set_same (counted_w X.between) LEFT left 0 (omega (arith, counted_runs.holds.long));
              },
            )

-- ---- No line yet
pub no_lines : {w o : List ℕ} (text : Diag.Message → List ℕ) → get_or w PLACE 0 ≡ 0 → get_or w PLACE-HIGH 0 ≡ 0 → get_or w FULL 0 ≡ 0
    → Lines w o (diagnostic_lines text (reversed [] []))
unfolding diagnostic_lines reversed
no_lines text p q r = within r (omega (arith, p, q)) (omega arith) refl
