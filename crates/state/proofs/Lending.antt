-- What a run's steps leave of it, whatever its words are: the file, the slices, what was read into the words, and visits
-- that do not rise (`Lent`). Each store goes to a constant place or behind a test of its number.
use mathlib.Core.Bool.{Bool, true, false}
use mathlib.Core.List.{List}
use mathlib.Core.Path.{◌≡◌, refl, ◌∙◌}
use native.Mathlib.Omega.{arith}
use Prim.Native.Nat.{ℕ, zero, suc, ◌+◌, ◌-◌, ◌*◌, ◌/◌, ◌%◌, ◌<◌, ◌≤◌}
use lib.Dec.{ltb, eqb}
use lib.ListN.{length, get_or, set}
use borrow.Author.Tests.{ltb-true}
use Rattle.work.specs.Layout.{LEFT, RECORD-COUNT, ENV-LEN, DIAGNOSTIC-COUNT, MARK-COUNT, UNUSED-COUNT, END, ENV, MARKS, UNUSED}
use Rattle.cells.specs.declared.Ty.{Ty}
use Rattle.cells.specs.Words.{annotate_w}
use Rattle.cells.specs.Inferred.{put_field_w}
use Rattle.cells.specs.Stands.{Keeps}
use Rattle.cells.proofs.Frame.{keeps_refl, keeps_trans, keeps_set, keeps_wider, keeps_pick}
use Rattle.cells.proofs.Holding.{annotate_keeps}
use Rattle.cells.proofs.Making.{put_field_keeps}
use Rattle.state.specs.Words.{counted_w, push_w, push_env_w, is_marked_w, mark_w, leave_entry_w, left_w, leave_w}

-- All words are as they were but those of a run: what the reading wrote, and what is behind the regions.
abbrev pub Within : List ℕ → List ℕ → Type 0
Within w w' = Keeps RECORD-COUNT END w w'

-- ---- `Lent` is written out, since a goal of it tells its parts

-- Only words changed.
pub lent_words : {A B C D : Type 0} {a : A} {b : B} {c : C} {p : D} {n l g : ℕ} {w v w' : List ℕ} → w' ≡ v → Within w v
    → (a ≡ a) × (b ≡ b) × (c ≡ c) × (length w' ≡ length w) × (n ≡ n) × (l ≤ l) × Within w w' × (p ≡ p) × (g ≡ g)
lent_words q k = rw q (refl, refl, refl, k.long, refl, omega arith, k, refl, refl)

pub lent_refl : {A B C D : Type 0} {a : A} {b : B} {c : C} {p : D} {n l g : ℕ} {w : List ℕ}
    → (a ≡ a) × (b ≡ b) × (c ≡ c) × (length w ≡ length w) × (n ≡ n) × (l ≤ l) × Within w w × (p ≡ p) × (g ≡ g)
lent_refl = lent_words refl keeps_refl

-- What is lent on is what was lent.
pub lent_then : {A B C D : Type 0} {a a' a'' : A} {b b' b'' : B} {c c' c'' : C} {p p' p'' : D} {m m' m'' n n' n'' l l' l'' g g' g'' : ℕ} {w w' w'' : List ℕ}
    → (a' ≡ a) × (b' ≡ b) × (c' ≡ c) × (m' ≡ m) × (n' ≡ n) × (l' ≤ l) × Within w w' × (p' ≡ p) × (g' ≡ g)
    → (a'' ≡ a') × (b'' ≡ b') × (c'' ≡ c') × (m'' ≡ m') × (n'' ≡ n') × (l'' ≤ l') × Within w' w'' × (p'' ≡ p') × (g'' ≡ g')
    → (a'' ≡ a) × (b'' ≡ b) × (c'' ≡ c) × (m'' ≡ m) × (n'' ≡ n) × (l'' ≤ l) × Within w w'' × (p'' ≡ p) × (g'' ≡ g)
lent_then h k = (k.0 ∙ h.0, k.1 ∙ h.1, k.2 ∙ h.2, k.3 ∙ h.3, k.4 ∙ h.4, omega (arith, h.5, k.5), keeps_trans h.6 k.6, k.7 ∙ h.7, k.8 ∙ h.8)

-- ---- Each step that writes words

pub counted_within : (w : List ℕ) → Within w (counted_w w)
unfolding counted_w
counted_within w = keeps_pick (ltb (get_or w DIAGNOSTIC-COUNT 0) 1536)
    (λ q. keeps_set w DIAGNOSTIC-COUNT (get_or w DIAGNOSTIC-COUNT 0 + 1) (omega arith) (omega arith)) (λ q. keeps_refl)

-- what was left is noted
pub noted_within : (w : List ℕ) (left : ℕ) → Within w (set w LEFT left)
noted_within w left = keeps_set w LEFT left (omega arith) (omega arith)

-- ---- Variables
pushed_within : (from count : ℕ) (w : List ℕ) (x : ℕ) → RECORD-COUNT ≤ from → from + 512 ≤ END → RECORD-COUNT ≤ count → count < END
    → Within w (push_w from count w x)
unfolding push_w
pushed_within from count w x lo hi low high = keeps_pick (ltb (get_or w count 0) 512)
    (λ q.
    let h = ltb-true (get_or w count 0) 512 q in
    let at = from + get_or w count 0 in
    keeps_trans (keeps_set w at x (omega arith) (omega arith)) (keeps_set (set w at x) count (get_or w count 0 + 1) low high))
    (λ q. keeps_refl)

pub push_env_within : (w : List ℕ) (node symbol var : ℕ) → Within w (push_env_w w node symbol var)
unfolding push_env_w
push_env_within w node symbol var = keeps_pick (ltb symbol 16384)
    (λ a. keeps_pick (ltb node 512)
    (λ b. keeps_pick (ltb var 512)
    (λ c. pushed_within ENV ENV-LEN w (symbol * 262144 + (node * 512 + var)) (omega arith) (omega arith) (omega arith) (omega arith))
    (λ c. keeps_refl)) (λ b. keeps_refl)) (λ a. keeps_refl)

pub mark_within : (w : List ℕ) (node e : ℕ) → Within w (mark_w w node e)
unfolding mark_w
mark_within w node e = keeps_pick (eqb (e / 512 % 512) node) (λ a. keeps_refl)
    (λ a. keeps_pick (is_marked_w w (e % 512)) (λ b. keeps_refl)
    (λ b. pushed_within MARKS MARK-COUNT w (e % 512) (omega arith) (omega arith) (omega arith) (omega arith)))

leave_entry_within : (w : List ℕ) (e : ℕ) → Within w (leave_entry_w w e)
unfolding leave_entry_w
leave_entry_within w e = keeps_pick (is_marked_w w (e % 512)) (λ b. keeps_refl)
    (λ b. pushed_within UNUSED UNUSED-COUNT w (e / 512 % 512) (omega arith) (omega arith) (omega arith) (omega arith))

left_within : (w : List ℕ) (scope k : ℕ) → Within w (left_w w scope k)
unfolding left_w
left_within w scope zero = keeps_refl
left_within w scope (suc k) =
    keeps_trans (left_within w scope k) (leave_entry_within (left_w w scope k) (get_or (left_w w scope k) (ENV + (scope + k)) 0))

pub leave_within : (w : List ℕ) (scope : ℕ) → Within w (leave_w w scope)
unfolding leave_w
leave_within w scope =
    let n = get_or w ENV-LEN 0 - scope in
    keeps_trans (left_within w scope n) (keeps_set (left_w w scope n) ENV-LEN scope (omega arith) (omega arith))

-- ---- Types and inferred records
pub annotate_within : (w : List ℕ) (n : ℕ) (t : Ty) → Within w (annotate_w w n t)
annotate_within w n t = keeps_wider (omega arith) (omega arith) (annotate_keeps w n t)

pub put_field_within : (w : List ℕ) (i name : ℕ) (t : Ty) → Within w (put_field_w w i name t)
put_field_within w i name t = keeps_wider (omega arith) (omega arith) (put_field_keeps w i name t)
