-- Variables as entries of words: what was found is marked, and what leaves unmarked is noted.
use mathlib.Core.Bool.{Bool, true, false}
use mathlib.Core.List.{List}
use mathlib.Core.Path.{◌≡◌, refl, sym, ◌∙◌}
use native.Mathlib.Omega.{arith}
use Prim.Native.Nat.{ℕ, suc, ◌+◌, ◌-◌, ◌/◌, ◌%◌, ◌<◌, ◌≤◌}
use lib.ListN.{length, get_or, set}
use borrow.Author.Tests.{eq-eqb, ne_eqb}
use Rattle.work.specs.Layout.{ENV-LEN, UNKNOWNS, MARK-COUNT, UNUSED-COUNT, ENV, MARKS, UNUSED}
use Rattle.cells.specs.Words.{fresh_w}
use Rattle.meaning.specs.Check.{lookup_in}
use Rattle.state.specs.Words.{env_of, known_as, push_env_w, is_marked_w, push_w, mark_w, leave_entry_w, left_w, leave_w, Introduces}
use Rattle.std.specs.Prelude.{None, Option, Some}

-- ---- A variable that was found, and a new one
module _ (w : List ℕ) (node symbol : ℕ) (k : Option ℕ) (q : known_as k ≡ lookup_in (env_of w (get_or w ENV-LEN 0)) symbol) where
  pub introduce_known : (e : ℕ) → k ≡ Some e → {w' : List ℕ} → w' ≡ mark_w w node e → Introduces w node symbol w' (e % 512)
  introduce_known e is m = record { known = k; found = q; is = rw is; words = m ∙ rw is }

  pub introduce_new : k ≡ None → {x : ℕ} {u w' : List ℕ} → x ≡ get_or w UNKNOWNS 0 → u ≡ fresh_w w → w' ≡ push_env_w u node symbol x
      → Introduces w node symbol w' x
  introduce_new e new fresh push = record { known = k; found = q; is = rw e new; words = push ∙ rw (e, fresh, new) }

-- ---- An entry that was found is marked, once, unless its maker looks; one that leaves unmarked is noted
module _ (w : List ℕ) (e : ℕ) {b : Bool} (q : b ≡ is_marked_w w (e % 512)) where
  module _ (node : ℕ) (other : ¬ (e / 512 % 512 ≡ node)) where
    pub mark_new : b ≡ false → {w' : List ℕ} → w' ≡ push_w MARKS MARK-COUNT w (e % 512) → w' ≡ mark_w w node e
    unfolding mark_w
    mark_new z p = let y : is_marked_w w (e % 512) ≡ false = sym q ∙ z in p ∙ rw (ne_eqb (e / 512 % 512) node other, y)

    pub mark_again : b ≡ true → w ≡ mark_w w node e
    unfolding mark_w
    mark_again z = let y : is_marked_w w (e % 512) ≡ true = sym q ∙ z in rw (ne_eqb (e / 512 % 512) node other, y)

  pub leave_new : b ≡ false → {w' : List ℕ} → w' ≡ push_w UNUSED UNUSED-COUNT w (e / 512 % 512) → w' ≡ leave_entry_w w e
  unfolding leave_entry_w
  leave_new z p = let y : is_marked_w w (e % 512) ≡ false = sym q ∙ z in p ∙ rw y

  pub leave_used : b ≡ true → w ≡ leave_entry_w w e
  unfolding leave_entry_w
  leave_used z = let y : is_marked_w w (e % 512) ≡ true = sym q ∙ z in rw y

pub mark_own : (w : List ℕ) (node e : ℕ) → e / 512 % 512 ≡ node → w ≡ mark_w w node e
unfolding mark_w
mark_own w node e p = rw (eq-eqb (e / 512 % 512) node p)

-- ---- Entries that have left, from number scope to number i
pub record Leaving (w₀ : List ℕ) (scope n : ℕ) (w : List ℕ) (i : ℕ) : Type 0 where
  pub from : scope ≤ i
  pub to : i - scope ≤ n - scope
  pub is : w ≡ left_w w₀ scope (i - scope)
  pub long : length w ≡ length w₀

pub leaving_start : (w : List ℕ) (scope n : ℕ) → Leaving w scope n w scope
unfolding left_w
leaving_start w scope n = let z : scope - scope ≡ 0 = omega arith in record { from = omega arith; to = omega arith; is = rw z refl; long = refl }

module _ {w₀ : List ℕ} {scope n : ℕ} {w : List ℕ} {i : ℕ} (L : Leaving w₀ scope n w i) where
  pub leaving_next : i < n → {e at : ℕ} → e ≡ get_or w (ENV + at) 0 → at ≡ i → {w' : List ℕ} → w' ≡ leave_entry_w w e → length w' ≡ length w
      → Leaving w₀ scope n w' (i + 1)
  unfolding left_w
  leaving_next lt is place left long =
      let k : i + 1 - scope ≡ suc (i - scope) = omega (arith, L.from) in
      let here : scope + (i - scope) ≡ i = omega (arith, L.from) in
      record {
        from = omega (arith, L.from);
        to = omega (arith, L.from);
        is = left ∙ rw (is, place, k, here, L.is) refl;
        long = long ∙ L.long;
      }

  pub leaving_done : n ≤ i → n ≡ get_or w₀ ENV-LEN 0 → {w' : List ℕ} → w' ≡ set w ENV-LEN scope → w' ≡ leave_w w₀ scope
  unfolding leave_w
  leaving_done h q p = let all : i - scope ≡ get_or w₀ ENV-LEN 0 - scope = omega (arith, L.to, L.from) in p ∙ rw (L.is, all) refl
