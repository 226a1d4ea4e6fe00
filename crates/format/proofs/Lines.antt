-- A file and its lines: each line is closed by the LF that follows it, and put together again they are the file.
use mathlib.Core.List.{List, [], ◌∷◌, ◌++◌}
use mathlib.Core.Path.{◌≡◌, refl, sym, ap, ◌∙◌}
use Prim.Native.Nat.{ℕ}
use lib.Dec.{eqb}
use borrow.Author.Tests.{eqb-true, ne_eqb}
use Rattle.format.specs.Lines.{Line, closed, unclosed, LF, in_front, lines}
use Rattle.format.specs.All.{Absent}
use Rattle.format.proofs.Tests.{cases}

unfoldable pub together : List Line → List ℕ
together [] = []
together (closed s ∷ ls) = s ++ LF ∷ together ls
together (unclosed s ∷ ls) = s ++ together ls

in_front_lem : (b : ℕ) (ls : List Line) → together (in_front b ls) ≡ b ∷ together ls
unfolding together in_front
in_front_lem b [] = refl
in_front_lem b (closed s ∷ ls) = refl
in_front_lem b (unclosed s ∷ ls) = refl

pub lines_together : (file : List ℕ) → together (lines file) ≡ file
unfolding together lines
lines_together [] = refl
lines_together (b ∷ s) = cases (eqb b LF)
    (λ q. rw (q, lines) (let e : b ≡ LF = eqb-true b LF q in rw (lines_together s, e)))
    (λ q. rw (q, lines) (in_front_lem b (lines s) ∙ ap (λ t. b ∷ t) (lines_together s)))

pub lines_closed : (s t : List ℕ) → Absent LF s → lines (s ++ LF ∷ t) ≡ closed s ∷ lines t
unfolding lines in_front
lines_closed [] t a = refl
lines_closed (b ∷ s) t a = rw (ne_eqb b LF (λ e. a.0 (sym e)), lines) (ap (in_front b) (lines_closed s t a.1))
