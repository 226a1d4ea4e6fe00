-- The environment and the marks: one more, and cut back to a length; a variable's unknown; and a rollback, which goes
-- back in the state, in the environment and in the marks.
use mathlib.Core.Bool.{Bool, true, false}
use mathlib.Core.List.{List, [], ◌∷◌, map}
use mathlib.Core.Logic.{◌≢◌}
use mathlib.Core.Path.{◌≡◌, refl, sym, ◌∙◌, ap}
use native.Mathlib.Numerals.{add-one}
use native.Mathlib.Omega.{arith}
use Prim.Native.Nat.{ℕ, zero, suc, ◌+◌, ◌-◌, ◌*◌, ◌/◌, ◌%◌, ◌<◌, ◌≤◌}
use lib.Dec.{eqb}
use lib.ListN.{length, get_or, set, drop, length-set}
use lib.Seq.{get_or-set_same, get_or-set_other}
use borrow.Author.Tests.{lt-ltb}
use Rattle.unification.specs.Bindings as Bindings
use Rattle.unification.specs.Bindings.{History, with_history}
use Rattle.unification.proofs.Undo.{rewind_nodes}
use Rattle.work.specs.Layout.{RECORD-COUNT, ENV-LEN, DIAGNOSTIC-COUNT, UNKNOWNS, MARK-COUNT, UNUSED-COUNT, ENV, MARKS, UNUSED, TYS, END}
use Rattle.cells.specs.Words.{fresh_w}
use Rattle.cells.specs.Stands.{Rows, Keeps}
use Rattle.cells.specs.Promises.{RollsBack}
use Rattle.cells.proofs.Elsewhere.{SameState}
use Rattle.format.specs.All.{All}
use Rattle.format.specs.Sound.{Sound}
use Rattle.format.specs.File.{Described}
use Rattle.meaning.specs.Check as Check
use Rattle.meaning.specs.Check.{Entry, Checker, Step, goes, and_then, lookup_in, is_in, marked, with_state, with_env, with_marks}
use Rattle.state.specs.Words.{entry_w, env_of, known_as, numbers_of, push_w, push_env_w, marks_of, unused_of, is_marked_w, mark_w, Introduces}
use Rattle.state.specs.Runs.{span_of, Scopes, Runs, Grew}
use Rattle.state.proofs.Lining.{Unlined, unlined_trans}
use Rattle.state.proofs.Running.{env_same, numbers_same, grew_trans, same_grew, runs_slots, grew_slots, fresh_word, fresh_runs}
use Rattle.state.proofs.Running.{fresh_grew, runs_aside}
use Rattle.std.specs.Prelude.{None, Option, Some}

pub env_length : (w : List ℕ) (n : ℕ) → length (env_of w n) ≡ n
unfolding env_of
env_length w zero = refl
env_length w (suc n) = ap suc (env_length w n)

pub runs_env_length : {f w : List ℕ} {T : Rows} {d : Described} {c : Checker} → Runs f w T d c → length c.env ≡ get_or w ENV-LEN 0
runs_env_length {f} {w} R = ap (λ (es : List Entry). length es) R.scopes.env ∙ env_length w (get_or w ENV-LEN 0)

numbers_length : (from : ℕ) (w : List ℕ) (n : ℕ) → length (numbers_of from w n) ≡ n
unfolding numbers_of
numbers_length from w zero = refl
numbers_length from w (suc n) = ap suc (numbers_length from w n)

pub runs_marks_length : {f w : List ℕ} {T : Rows} {d : Described} {c : Checker} → Runs f w T d c → length c.marks ≡ get_or w MARK-COUNT 0
runs_marks_length {f} {w} R = ap (λ (ms : List ℕ). length ms) R.scopes.marks ∙ numbers_length MARKS w (get_or w MARK-COUNT 0)

spans_length : (d : Described) (ns : List ℕ) → length (map (span_of d) ns) ≡ length ns
spans_length d [] = refl
spans_length d (n ∷ ns) = ap suc (spans_length d ns)

pub runs_unused_length : {f w : List ℕ} {T : Rows} {d : Described} {c : Checker} → Runs f w T d c → length c.unused ≡ get_or w UNUSED-COUNT 0
runs_unused_length {f} {w} {d = d} R =
    ap length R.scopes.unused ∙ spans_length d (unused_of w (get_or w UNUSED-COUNT 0)) ∙ numbers_length UNUSED w (get_or w UNUSED-COUNT 0)

-- ---- Words of the environment, of the marks and of what left alone changed
pub record Scoped (w w' : List ℕ) : Type 0 where
  pub same : (j : ℕ) → j ≢ ENV-LEN → j ≢ MARK-COUNT → j ≢ UNUSED-COUNT → (ENV ≤ j → TYS ≤ j) → get_or w' j 0 ≡ get_or w j 0
  pub long : length w' ≡ length w

pub scoped_refl : {w : List ℕ} → Scoped w w
scoped_refl = record { same = λ j a b c h. refl; long = refl }

pub scoped_trans : {u v w : List ℕ} → Scoped u v → Scoped v w → Scoped u w
scoped_trans p q = record { same = λ j a b c h. q.same j a b c h ∙ p.same j a b c h; long = q.long ∙ p.long }

module _ {w w' : List ℕ} (S : Scoped w w') where
  scoped_keeps : Keeps RECORD-COUNT END w w'
  scoped_keeps = record {
    below = λ i h. S.same i (λ q. omega arith) (λ q. omega arith) (λ q. omega arith) (λ l. omega arith);
    above = λ i h. S.same i (λ q. omega arith) (λ q. omega arith) (λ q. omega arith) (λ l. omega arith);
    long = S.long;
  }

  scoped_aside : SameState w w'
  scoped_aside = record {
    cells = record {
      said = λ i h. S.same i (λ q. omega arith) (λ q. omega arith) (λ q. omega arith) (λ l. omega arith);
      made = λ i l h. S.same i (λ q. omega arith) (λ q. omega arith) (λ q. omega arith) (λ m. omega arith);
      unknowns = omega (arith, S.same UNKNOWNS (λ q. omega arith) (λ q. omega arith) (λ q. omega arith) (λ l. omega arith));
    };
    slots = record {
      unknowns = S.same UNKNOWNS (λ q. omega arith) (λ q. omega arith) (λ q. omega arith) (λ l. omega arith);
      at = λ i l h. S.same i (λ q. omega arith) (λ q. omega arith) (λ q. omega arith) (λ m. l);
      long = S.long;
    };
  }

  pub scoped_unlined : Unlined w w'
  scoped_unlined = record { at = λ i l h. S.same i (λ q. omega arith) (λ q. omega arith) (λ q. omega arith) (λ m. omega arith) }

  module _ {f : List ℕ} {T : Rows} {d : Described} {c : Checker} (sound : Sound d) (R : Runs f w T d c) where
    pub scoped_grew : Grew w w' 0 0
    scoped_grew = same_grew R.holds scoped_aside.cells scoped_keeps

    pub scoped_runs : {c' : Checker} → c'.state ≡ c.state → c'.diagnostics ≡ c.diagnostics → Scopes w' d c' → Runs f w' T d c'
    scoped_runs e p sc =
        let count = S.same DIAGNOSTIC-COUNT (λ q. omega arith) (λ q. omega arith) (λ q. omega arith) (λ l. omega arith) in
        runs_aside sound R scoped_aside e sc (ap length p ∙ R.diagnostics ∙ sym count) (omega (arith, count, R.few_diagnostics))

-- ---- `push`
module _ (from count : ℕ) (w : List ℕ) (x : ℕ) (room : get_or w count 0 < 512) where
  abbrev many : ℕ
  many = get_or w count 0

  push_is : push_w from count w x ≡ set (set w (from + many) x) count (many + 1)
  unfolding push_w
  push_is = rw (lt-ltb many 512 room)

  pub push_other : (j : ℕ) → j ≢ count → j ≢ from + many → get_or (push_w from count w x) j 0 ≡ get_or w j 0
  push_other j p q = rw push_is (get_or-set_other (set w (from + many) x) count j (many + 1) 0 p ∙ get_or-set_other w (from + many) j x 0 q)

  pub push_long : length (push_w from count w x) ≡ length w
  push_long = rw push_is (length-set (set w (from + many) x) count (many + 1) ∙ length-set w (from + many) x)

  module _ (low : count < from) (high : from + 512 ≤ END) (long : END ≤ length w) where
    pub push_count : get_or (push_w from count w x) count 0 ≡ suc many
    push_count = rw (push_is, ← add-one many) (get_or-set_same (set w (from + many) x) count (many + 1) 0 (omega (arith, length-set w (from + many) x)))

    pub push_entry : get_or (push_w from count w x) (from + many) 0 ≡ x
    push_entry = rw push_is (get_or-set_other (set w (from + many) x) count (from + many) (many + 1) 0 (λ q. omega arith) ∙ get_or-set_same w
        (from + many) x 0 (omega arith))

    pub push_numbers : numbers_of from (push_w from count w x) (get_or (push_w from count w x) count 0) ≡ x ∷ numbers_of from w many
    unfolding numbers_of
    push_numbers = rw (
      push_count,
      push_entry,
      numbers_same from w (push_w from count w x) many
          (λ i h. push_other (from + i) (λ q. omega arith) (λ q. omega arith)),
    )

-- ---- `push_env`
module _ {f w : List ℕ} {T : Rows} {d : Described} {c : Checker} (sound : Sound d) (R : Runs f w T d c) where
  module _ (node symbol var : ℕ) (room : get_or w ENV-LEN 0 < 512) (name : symbol < 16384) (there : node < length d.ast.nodes) (unknown : var < 512) where
    abbrev word : ℕ
    word = symbol * 262144 + (node * 512 + var)

    abbrev entry : Entry
    entry = record { symbol = symbol; unknown = var; maker = node }

    small : node < 512
    small = omega (arith, R.stands.few)

    env_is : push_env_w w node symbol var ≡ push_w ENV ENV-LEN w word
    unfolding push_env_w
    env_is = rw (lt-ltb symbol 16384 name, lt-ltb node 512 small, lt-ltb var 512 unknown)

    abbrev w₁ : List ℕ
    w₁ = push_w ENV ENV-LEN w word

    other : (j : ℕ) → j ≢ ENV-LEN → j ≢ ENV + get_or w ENV-LEN 0 → get_or w₁ j 0 ≡ get_or w j 0
    other j p q = push_other ENV ENV-LEN w word room j p q

    env_scoped : Scoped w w₁
    env_scoped = record { same = λ j a b e h. other j a (λ q. let z : TYS ≤ j = h (omega arith) in omega arith); long = push_long ENV ENV-LEN w word room }

    word_entry : entry_w word ≡ entry
    word_entry =
        let high : word / 262144 ≡ symbol = omega (arith, small) in
        let mid : word / 512 % 512 ≡ node = omega (arith, small) in
        let low : word % 512 ≡ var = omega (arith, small) in
        rw (high, mid, low)

    env_now : env_of w₁ (get_or w₁ ENV-LEN 0) ≡ entry ∷ env_of w (get_or w ENV-LEN 0)
    unfolding env_of
    env_now =
        rw (
          push_count ENV ENV-LEN w word room (omega arith) (omega arith) R.holds.long,
          push_entry ENV ENV-LEN w word room (omega arith) (omega arith) R.holds.long,
          word_entry,
          env_same w w₁ (get_or w ENV-LEN 0) (λ i h. other (ENV + i) (λ q. omega arith) (λ q. omega arith)),
        )

    env_scopes : Scopes w₁ d (with_env c (entry ∷ c.env))
    unfolding with_env
    env_scopes =
        let S = R.scopes in
        let marks = other MARK-COUNT (λ q. omega arith) (λ q. omega arith) in
        let unused = other UNUSED-COUNT (λ q. omega arith) (λ q. omega arith) in
        let left : unused_of w₁ (get_or w₁ UNUSED-COUNT 0) ≡ unused_of w (get_or w UNUSED-COUNT 0) = rw unused
        (numbers_same UNUSED w w₁ (get_or w UNUSED-COUNT 0) (λ i h. other (UNUSED + i) (λ q. omega arith) (λ q. omega arith))) in
        record {
          env = ap {B = List Entry} (λ es. entry ∷ es) S.env ∙ sym env_now;
          few_env = omega (arith, push_count ENV ENV-LEN w word room (omega arith) (omega arith) R.holds.long);
          makers = (there, S.makers);
          marks = S.marks ∙ sym (rw marks (numbers_same MARKS w w₁ (get_or w MARK-COUNT 0) (λ i h. other (MARKS + i) (λ q. omega arith) (λ q. omega arith))));
          few_marks = omega (arith, marks, S.few_marks);
          unused = S.unused ∙ ap (map (span_of d)) (sym left);
          few_unused = omega (arith, unused, S.few_unused);
          left = rw left S.left;
        }

    pub push_env_runs : Runs f (push_env_w w node symbol var) T d (with_env c (record { symbol = symbol; unknown = var; maker = node } ∷ c.env))
    unfolding with_env
    push_env_runs = rw env_is (scoped_runs env_scoped sound R refl refl env_scopes)

    pub push_env_unlined : Unlined w (push_env_w w node symbol var)
    push_env_unlined = rw env_is (scoped_unlined env_scoped)

    pub push_env_grew : Grew w (push_env_w w node symbol var) 0 0
    push_env_grew = rw env_is (scoped_grew env_scoped sound R)

  -- ---- `mark`
  module _ (e : ℕ) (room : is_in (e % 512) c.marks ≡ false → get_or w MARK-COUNT 0 < 512) where
    pub record Marks (node : ℕ) (w' : List ℕ) : Type 0 where
      pub scoped : Scoped w w'
      pub scopes : Scopes w' d (with_marks c (marked node (entry_w e) c.marks))

    module _ (node : ℕ) where
      abbrev now : List ℕ
      now = marked node (entry_w e) c.marks

      marked_own : eqb (e / 512 % 512) node ≡ true → marked node (entry_w e) c.marks ≡ c.marks
      unfolding marked
      marked_own p = rw (p, marked)

      marked_again : eqb (e / 512 % 512) node ≡ false → is_in (e % 512) c.marks ≡ true → marked node (entry_w e) c.marks ≡ c.marks
      unfolding marked
      marked_again p q = rw (p, marked, q)

      marked_new : eqb (e / 512 % 512) node ≡ false → is_in (e % 512) c.marks ≡ false → marked node (entry_w e) c.marks ≡ e % 512 ∷ c.marks
      unfolding marked
      marked_new p q = rw (p, marked, q)

      known : is_marked_w w (e % 512) ≡ is_in (e % 512) c.marks
      known = ap (is_in (e % 512)) (sym R.scopes.marks)

      -- One mark more.
      module _ (r : get_or w MARK-COUNT 0 < 512) where
        abbrev w₂ : List ℕ
        w₂ = push_w MARKS MARK-COUNT w (e % 512)

        beside : (j : ℕ) → j ≢ MARK-COUNT → j ≢ MARKS + get_or w MARK-COUNT 0 → get_or w₂ j 0 ≡ get_or w j 0
        beside j p q = push_other MARKS MARK-COUNT w (e % 512) r j p q

        more_marks : Scopes w₂ d (with_marks c (e % 512 ∷ c.marks))
        unfolding with_marks
        more_marks =
            let S = R.scopes in
            let len = beside ENV-LEN (λ q. omega arith) (λ q. omega arith) in
            let unused = beside UNUSED-COUNT (λ q. omega arith) (λ q. omega arith) in
            let left : unused_of w₂ (get_or w₂ UNUSED-COUNT 0) ≡ unused_of w (get_or w UNUSED-COUNT 0) = rw unused
            (numbers_same UNUSED w w₂ (get_or w UNUSED-COUNT 0) (λ i h. beside (UNUSED + i) (λ q. omega arith) (λ q. omega arith))) in
            record {
              env = S.env ∙ sym (rw len (env_same w w₂ (get_or w ENV-LEN 0) (λ i h. beside (ENV + i) (λ q. omega arith) (λ q. omega (arith, S.few_env)))));
              few_env = omega (arith, len, S.few_env);
              makers = S.makers;
              marks = ap {B = List ℕ} (λ ms. e % 512 ∷ ms) S.marks ∙ sym
                  (push_numbers MARKS MARK-COUNT w (e % 512) r (omega arith) (omega arith) R.holds.long);
              few_marks = omega (arith, r, push_count MARKS MARK-COUNT w (e % 512) r (omega arith) (omega arith) R.holds.long);
              unused = S.unused ∙ ap (map (span_of d)) (sym left);
              few_unused = omega (arith, unused, S.few_unused);
              left = rw left S.left;
            }

        more_scoped : Scoped w w₂
        more_scoped = record {
          same = λ j a b z h. beside j b (λ q. let t : TYS ≤ j = h (omega arith) in omega (arith, r));
          long = push_long MARKS MARK-COUNT w (e % 512) r;
        }

      pub mark_runs : Marks node (mark_w w node e)
      unfolding mark_w with_marks
      mark_runs = go (eqb (e / 512 % 512) node) refl (is_in (e % 512) c.marks) refl
        where
          go : (b : Bool) → eqb (e / 512 % 512) node ≡ b → (i : Bool) → is_in (e % 512) c.marks ≡ i → Marks node (mark_w w node e)
          go true p i q = rw p (record { scoped = scoped_refl; scopes = rw (marked_own p) R.scopes })
          go false p true q = rw (p, known, q) (record { scoped = scoped_refl; scopes = rw (marked_again p q) R.scopes })
          go false p false q = rw (p, known, q) (record { scoped = more_scoped (room q); scopes = rw (marked_new p q) (more_marks (room q)) })

-- ---- The environment is cut back
pub env_drop : (w : List ℕ) (k n : ℕ) → drop k (env_of w (k + n)) ≡ env_of w n
unfolding env_of
env_drop w zero n = let e : 0 + n ≡ n = omega arith in rw e
env_drop w (suc k) n = let e : suc k + n ≡ suc (k + n) = omega arith in rw e (env_drop w k n)

numbers_drop : (from : ℕ) (w : List ℕ) (k n : ℕ) → drop k (numbers_of from w (k + n)) ≡ numbers_of from w n
unfolding numbers_of
numbers_drop from w zero n = let e : 0 + n ≡ n = omega arith in rw e
numbers_drop from w (suc k) n = let e : suc k + n ≡ suc (k + n) = omega arith in rw e (numbers_drop from w k n)

-- Of entries of which all hold something, those that are left do.
pub all_drop : {A : Type 0} (P : A → Type 0) (k : ℕ) (s : List A) → All P s → All P (drop k s)
all_drop P zero s h = h
all_drop P (suc k) [] h = h
all_drop P (suc k) (x ∷ s) h = all_drop P k s h.1

module _ {w : List ℕ} {d : Described} {c : Checker} (S : Scopes w d c) (long : END ≤ length w) where
  module _ (n : ℕ) (within : n ≤ get_or w ENV-LEN 0) where
    abbrev cut : List ℕ
    cut = set w ENV-LEN n

    cut_other : (j : ℕ) → j ≢ ENV-LEN → get_or cut j 0 ≡ get_or w j 0
    cut_other j p = get_or-set_other w ENV-LEN j n 0 p

    pub cut_scoped : Scoped w (set w ENV-LEN n)
    cut_scoped = record { same = λ j a b e h. cut_other j a; long = length-set w ENV-LEN n }

    cut_env : drop (length c.env - n) c.env ≡ env_of cut (get_or cut ENV-LEN 0)
    cut_env =
        let k = get_or w ENV-LEN 0 - n in
        let all : k + n ≡ get_or w ENV-LEN 0 = omega arith in
        let len : length c.env ≡ get_or w ENV-LEN 0 = ap (λ (es : List Entry). length es) S.env ∙ env_length w (get_or w ENV-LEN 0) in
        rw (len, S.env, get_or-set_same w ENV-LEN n 0 (omega arith), env_same w cut n (λ i h. cut_other (ENV + i) (λ q. omega arith)))
        (ap (λ (m : ℕ). drop k (env_of w m)) (sym all) ∙ env_drop w k n)

    pub cut_scopes : Scopes (set w ENV-LEN n) d (with_env c (drop (length c.env - n) c.env))
    unfolding with_env
    cut_scopes =
        let marks = cut_other MARK-COUNT (λ q. omega arith) in
        let unused = cut_other UNUSED-COUNT (λ q. omega arith) in
        let left : unused_of cut (get_or cut UNUSED-COUNT 0) ≡ unused_of w (get_or w UNUSED-COUNT 0) = rw unused
        (numbers_same UNUSED w cut (get_or w UNUSED-COUNT 0) (λ i h. cut_other (UNUSED + i) (λ q. omega arith))) in
        record {
          env = cut_env;
          few_env = omega (arith, get_or-set_same w ENV-LEN n 0 (omega arith), S.few_env);
          makers = all_drop (λ e. e.maker < length d.ast.nodes) (length c.env - n) c.env S.makers;
          marks = S.marks ∙ sym (rw marks (numbers_same MARKS w cut (get_or w MARK-COUNT 0) (λ i h. cut_other (MARKS + i) (λ q. omega arith))));
          few_marks = omega (arith, marks, S.few_marks);
          unused = S.unused ∙ ap (map (span_of d)) (sym left);
          few_unused = omega (arith, unused, S.few_unused);
          left = rw left S.left;
        }

  -- ---- Marks are taken back
  module _ (n : ℕ) (within : n ≤ get_or w MARK-COUNT 0) where
    abbrev unmarked : List ℕ
    unmarked = set w MARK-COUNT n

    unmarked_other : (j : ℕ) → j ≢ MARK-COUNT → get_or unmarked j 0 ≡ get_or w j 0
    unmarked_other j p = get_or-set_other w MARK-COUNT j n 0 p

    pub unmarked_scoped : Scoped w (set w MARK-COUNT n)
    unmarked_scoped = record { same = λ j a b e h. unmarked_other j b; long = length-set w MARK-COUNT n }

    unmarked_marks : drop (length c.marks - n) c.marks ≡ marks_of unmarked (get_or unmarked MARK-COUNT 0)
    unmarked_marks =
        let k = get_or w MARK-COUNT 0 - n in
        let all : k + n ≡ get_or w MARK-COUNT 0 = omega arith in
        let len : length c.marks ≡ get_or w MARK-COUNT 0 = ap (λ (ms : List ℕ). length ms) S.marks ∙ numbers_length MARKS w (get_or w MARK-COUNT 0) in
        rw (
          len,
          S.marks,
          get_or-set_same w MARK-COUNT n 0 (omega arith),
          numbers_same MARKS w unmarked n (λ i h. unmarked_other (MARKS + i) (λ q. omega arith)),
        )
        (ap (λ (m : ℕ). drop k (marks_of w m)) (sym all) ∙ numbers_drop MARKS w k n)

    pub unmarked_scopes : Scopes (set w MARK-COUNT n) d (with_marks c (drop (length c.marks - n) c.marks))
    unfolding with_marks
    unmarked_scopes =
        let len = unmarked_other ENV-LEN (λ q. omega arith) in
        let unused = unmarked_other UNUSED-COUNT (λ q. omega arith) in
        let left : unused_of unmarked (get_or unmarked UNUSED-COUNT 0) ≡ unused_of w (get_or w UNUSED-COUNT 0) = rw unused
        (numbers_same UNUSED w unmarked (get_or w UNUSED-COUNT 0) (λ i h. unmarked_other (UNUSED + i) (λ q. omega arith))) in
        record {
          env = S.env ∙ sym (rw len (env_same w unmarked (get_or w ENV-LEN 0) (λ i h. unmarked_other (ENV + i) (λ q. omega arith))));
          few_env = omega (arith, len, S.few_env);
          makers = S.makers;
          marks = unmarked_marks;
          few_marks = omega (arith, get_or-set_same w MARK-COUNT n 0 (omega arith), S.few_marks);
          unused = S.unused ∙ ap (map (span_of d)) (sym left);
          few_unused = omega (arith, unused, S.few_unused);
          left = rw left S.left;
        }

-- ---- `rollback`
module _ {f w w' : List ℕ} {T : Rows} {d : Described} {c : Checker} {mark : ℕ} (sound : Sound d) (R : Runs f w T d c) (B : RollsBack w mark w')
    (past : History) where
  rolled_runs : Runs f w' T d (with_state c (Bindings.rollback c.state (record { undo = mark; past = past })))
  unfolding Bindings.rollback with_history
  rolled_runs = runs_slots sound R B.keeps (B.is T c.state R.holds past) (rewind_nodes (length c.state.undo - mark) c.state.undo c.state)

  module _ (n m : ℕ) (env : n ≤ get_or w ENV-LEN 0) (marks : m ≤ get_or w MARK-COUNT 0) where
    abbrev back : Checker
    back = with_state c (Bindings.rollback c.state (record { undo = mark; past = past }))

    env_still : n ≤ get_or w' ENV-LEN 0
    env_still = omega (arith, B.keeps.below ENV-LEN (omega arith))

    long₁ : END ≤ length (set w' ENV-LEN n)
    long₁ = omega (arith, length-set w' ENV-LEN n, rolled_runs.holds.long)

    marks_still : m ≤ get_or (set w' ENV-LEN n) MARK-COUNT 0
    marks_still = omega (arith, B.keeps.below MARK-COUNT (omega arith), get_or-set_other w' ENV-LEN MARK-COUNT n 0 (λ q. omega arith))

    both : Scoped w' (set (set w' ENV-LEN n) MARK-COUNT m)
    both = scoped_trans (cut_scoped rolled_runs.scopes rolled_runs.holds.long n env_still)
        (unmarked_scoped (cut_scopes rolled_runs.scopes rolled_runs.holds.long n env_still) long₁ m marks_still)

    pub rollback_runs : Runs f (set (set w' ENV-LEN n) MARK-COUNT m) T d
        (with_marks (with_env (with_state c (Bindings.rollback c.state (record { undo = mark; past = past }))) (drop (length c.env - n) c.env))
        (drop (length c.marks - m) c.marks))
    unfolding with_state with_env with_marks
    rollback_runs = scoped_runs both sound rolled_runs refl refl
        (unmarked_scopes (cut_scopes rolled_runs.scopes rolled_runs.holds.long n env_still) long₁ m marks_still)

    pub rollback_unlined : Unlined w (set (set w' ENV-LEN n) MARK-COUNT m)
    rollback_unlined = unlined_trans (record { at = λ i l h. B.keeps.below i (omega arith) }) (scoped_unlined both)

    pub rollback_grew : Grew w (set (set w' ENV-LEN n) MARK-COUNT m) 0 0
    rollback_grew = grew_trans (grew_slots sound R B.keeps) (scoped_grew both sound rolled_runs)

-- ---- `introduce`

-- Where the definition's step leads, and that the words stand for it.
pub record Gives {A : Type 0} (f w w' : List ℕ) (T : Rows) (d : Described) (before : Checker) (s : Step A) (a : A) : Type 0 where
  pub after : Checker
  pub step : s ≡ goes a after
  pub runs : Runs f w' T d after
  pub unlined : Unlined w w'
  pub reported : after.diagnostics ≡ before.diagnostics
  pub entries : after.entries ≡ before.entries
  pub until : after.until ≡ before.until
  pub grew : Grew w w' 0 0

module _ {f w : List ℕ} {T : Rows} {d : Described} {c : Checker} {node symbol : ℕ} (sound : Sound d) (R : Runs f w T d c) (name : symbol < 16384)
    (there : node < length d.ast.nodes) where
  -- It is found.
  found_runs : (e : ℕ) → lookup_in c.env symbol ≡ Some (entry_w e) → (is_in (e % 512) c.marks ≡ false → get_or w MARK-COUNT 0 < 512)
      → Gives f w (mark_w w node e) T d c (Check.introduce node symbol c) (e % 512)
  unfolding Check.introduce Check.lookup Check.mark and_then with_marks
  found_runs e q room =
      let M = mark_runs sound R e room node in
      record {
        after = with_marks c (marked node (entry_w e) c.marks);
        step = rw (q, Check.introduce);
        runs = scoped_runs M.scoped sound R refl refl M.scopes;
        unlined = scoped_unlined M.scoped;
        reported = refl;
        entries = refl;
        until = refl;
        grew = scoped_grew M.scoped sound R;
      }

  -- There is none.
  new_runs : lookup_in c.env symbol ≡ None → length c.state.subst < 512 → get_or w ENV-LEN 0 < 512
      → Gives f w (push_env_w (fresh_w w) node symbol (get_or w UNKNOWNS 0)) T d c (Check.introduce node symbol c) (get_or w UNKNOWNS 0)
  unfolding Check.introduce Check.lookup Check.fresh_var_id Check.push_env with_state with_env and_then Bindings.fresh_id
  new_runs q few room =
      let new : length c.state.subst ≡ get_or w UNKNOWNS 0 = R.holds.binds.unknowns in
      let F = fresh_runs sound R few in
      let space : get_or (fresh_w w) ENV-LEN 0 < 512 = omega (arith, runs_env_length F, runs_env_length R) in
      let small : get_or w UNKNOWNS 0 < 512 = omega arith in
      record {
        after = with_env (with_state c (Bindings.fresh c.state)) (record { symbol = symbol; unknown = get_or w UNKNOWNS 0; maker = node } ∷ c.env);
        step = rw (q, Check.introduce, new);
        runs = push_env_runs sound F node symbol (get_or w UNKNOWNS 0) space name there small;
        unlined = unlined_trans (record { at = λ i l h. fresh_word sound R few i (λ q. omega arith) (omega arith) })
            (push_env_unlined sound F node symbol (get_or w UNKNOWNS 0) space name there small);
        reported = refl;
        entries = refl;
        until = refl;
        grew = grew_trans (fresh_grew sound R few) (push_env_grew sound F node symbol (get_or w UNKNOWNS 0) space name there small);
      }

  pub introduce_runs : {w' : List ℕ} {r : ℕ} → (lookup_in c.env symbol ≡ None → (length c.state.subst < 512) × (get_or w ENV-LEN 0 < 512))
      → ((e : Entry) → lookup_in c.env symbol ≡ Some e → is_in e.unknown c.marks ≡ false → get_or w MARK-COUNT 0 < 512)
      → Introduces w node symbol w' r → Gives f w w' T d c (Check.introduce node symbol c) r
  introduce_runs {w'} {r} room marks I = go I.known refl
    where
      sought : known_as I.known ≡ lookup_in c.env symbol
      sought = I.found ∙ ap (λ (es : List Entry). lookup_in es symbol) (sym R.scopes.env)

      go : (k : Option ℕ) → I.known ≡ k → Gives f w w' T d c (Check.introduce node symbol c) r
      go (Some e) q =
          let is : r ≡ e % 512 = rw q at I.is in
          let words : w' ≡ mark_w w node e = rw q at I.words in
          let there : lookup_in c.env symbol ≡ Some (entry_w e) = sym (rw q at sought) in
          rw (is, words) (found_runs e there (marks (entry_w e) there))
      go None q =
          let is : r ≡ get_or w UNKNOWNS 0 = rw q at I.is in
          let words : w' ≡ push_env_w (fresh_w w) node symbol (get_or w UNKNOWNS 0) = rw q at I.words in
          let None : lookup_in c.env symbol ≡ None = sym (rw q at sought) in
          rw (is, words) (new_runs None (room None).0 (room None).1)
