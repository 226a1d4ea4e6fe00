-- Entries leave: the words that the code leaves after so many of them stand for the definition's spans of those that
-- were unmarked.
use mathlib.Core.Bool.{Bool, true, false}
use mathlib.Core.List.{List, [], ◌∷◌, map}
use mathlib.Core.Logic.{◌≢◌, by_cases}
use mathlib.Core.Path.{◌≡◌, refl, sym, ◌∙◌, ap}
use native.Mathlib.Decide.{ℕ_discrete}
use native.Mathlib.Omega.{arith}
use Prim.Native.Nat.{ℕ, zero, suc, ◌+◌, ◌-◌, ◌/◌, ◌%◌, ◌<◌, ◌≤◌}
use lib.ListN.{length, get_or, take, drop}
use Rattle.work.specs.Layout.{ENV-LEN, MARK-COUNT, UNUSED-COUNT, ENV, MARKS, UNUSED, TYS, END}
use Rattle.cells.specs.Stands.{Rows}
use Rattle.format.specs.All.{All}
use Rattle.format.specs.Syntax.{Span}
use Rattle.format.specs.Sound.{Sound}
use Rattle.format.specs.File.{Described}
use Rattle.meaning.specs.Check.{Entry, Checker, is_in, leaving, with_env, with_unused}
use Rattle.state.specs.Words.{entry_w, env_of, push_w, is_marked_w, leave_entry_w, left_w, leave_w}
use Rattle.state.specs.Runs.{span_of, Scopes, Runs, Grew}
use Rattle.state.proofs.Lining.{Unlined}
use Rattle.state.proofs.Running.{env_same, numbers_same}
use Rattle.state.proofs.Scoping.{env_length, runs_env_length, runs_unused_length, Scoped, scoped_refl, scoped_trans, scoped_unlined, scoped_grew}
use Rattle.state.proofs.Scoping.{scoped_runs, push_other, push_long, push_count, push_numbers, cut_scoped, cut_scopes}

-- ---- The entries from a number on, newest first
unfoldable entries_of : List ℕ → ℕ → ℕ → List Entry
entries_of w scope zero = []
entries_of w scope (suc k) = entry_w (get_or w (ENV + (scope + k)) 0) ∷ entries_of w scope k

env_take : (w : List ℕ) (n k : ℕ) → take k (env_of w (k + n)) ≡ entries_of w n k
unfolding env_of entries_of
env_take w n zero = refl
env_take w n (suc k) =
    let e : suc k + n ≡ suc (k + n) = omega arith in
    let f : n + k ≡ k + n = omega arith in
    rw (e, f) (ap {B = List Entry} (λ es. entry_w (get_or w (ENV + (k + n)) 0) ∷ es) (env_take w n k))

env_all : (P : Entry → Type 0) (w : List ℕ) (n : ℕ) → All P (env_of w n) → (i : ℕ) → i < n → P (entry_w (get_or w (ENV + i) 0))
unfolding env_of
env_all P w zero h i lt = absurd (omega arith)
env_all P w (suc n) h i lt = by_cases (ℕ_discrete i n) (λ p. rw p h.0) (λ p. env_all P w n h.1 i (omega arith))

module _ {f w : List ℕ} {T : Rows} {d : Described} {c : Checker} (sound : Sound d) (R : Runs f w T d c) (scope : ℕ)
    (few : length c.env + length c.unused ≤ 512) where
  -- The spans after so many of them.
  abbrev spans : ℕ → List Span
  spans k = leaving d.schema d.ast.nodes c.marks (entries_of w scope k) c.unused

  record Left (k : ℕ) (v : List ℕ) : Type 0 where
    scoped : Scoped w v
    env : (i : ℕ) → i < 512 → get_or v (ENV + i) 0 ≡ get_or w (ENV + i) 0
    count : get_or v UNUSED-COUNT 0 ≤ get_or w UNUSED-COUNT 0 + k
    scopes : Scopes v d (with_unused c (spans k))

  -- ---- The next of them
  module _ (k : ℕ) (v : List ℕ) (lt : scope + k < get_or w ENV-LEN 0) (L : Left k v) where
    abbrev e : ℕ
    e = get_or w (ENV + (scope + k)) 0

    abbrev maker : ℕ
    maker = e / 512 % 512

    marked_same : is_marked_w v (e % 512) ≡ is_in (e % 512) c.marks
    unfolding with_unused
    marked_same = ap (is_in (e % 512)) (sym L.scopes.marks)

    spans_stay : is_in (e % 512) c.marks ≡ true → spans (suc k) ≡ spans k
    unfolding leaving entries_of
    spans_stay q = rw (q, leaving)

    spans_more : is_in (e % 512) c.marks ≡ false → spans (suc k) ≡ span_of d maker ∷ spans k
    unfolding leaving entries_of
    spans_more q = rw (q, leaving)

    it_stays : is_in (e % 512) c.marks ≡ true → Left (suc k) (leave_entry_w v e)
    unfolding leave_entry_w
    it_stays q = rw (marked_same, q) (record { scoped = L.scoped; env = L.env; count = omega (arith, L.count); scopes = rw (spans_stay q) L.scopes })

    room : get_or v UNUSED-COUNT 0 < 512
    room = omega (arith, L.count, runs_env_length R, runs_unused_length R)

    abbrev v₂ : List ℕ
    v₂ = push_w UNUSED UNUSED-COUNT v maker

    other : (j : ℕ) → j ≢ UNUSED-COUNT → j ≢ UNUSED + get_or v UNUSED-COUNT 0 → get_or v₂ j 0 ≡ get_or v j 0
    other j p q = push_other UNUSED UNUSED-COUNT v maker room j p q

    long : END ≤ length v
    long = omega (arith, L.scoped.long, R.holds.long)

    maker_there : maker < length d.ast.nodes
    maker_there = env_all (λ x. x.maker < length d.ast.nodes) w (get_or w ENV-LEN 0) (rw R.scopes.env at R.scopes.makers) (scope + k) lt

    more_scopes : Scopes v₂ d (with_unused c (span_of d maker ∷ spans k))
    unfolding with_unused
    more_scopes =
        let S = L.scopes in
        let len = other ENV-LEN (λ q. omega arith) (λ q. omega arith) in
        let marks = other MARK-COUNT (λ q. omega arith) (λ q. omega arith) in
        let now = push_numbers UNUSED UNUSED-COUNT v maker room (omega arith) (omega arith) long in
        record {
          env = S.env ∙ sym (rw len (env_same v v₂ (get_or v ENV-LEN 0) (λ i h. other (ENV + i) (λ q. omega arith) (λ q. omega (arith, S.few_env)))));
          few_env = omega (arith, len, S.few_env);
          makers = S.makers;
          marks = S.marks ∙ sym (rw marks (numbers_same MARKS v v₂ (get_or v MARK-COUNT 0)
              (λ i h. other (MARKS + i) (λ q. omega arith) (λ q. omega (arith, S.few_marks)))));
          few_marks = omega (arith, marks, S.few_marks);
          unused = ap {B = List Span} (λ ss. span_of d maker ∷ ss) S.unused ∙ ap (map (span_of d)) (sym now);
          few_unused = omega (arith, room, push_count UNUSED UNUSED-COUNT v maker room (omega arith) (omega arith) long);
          left = rw now (maker_there, S.left);
        }

    it_leaves : is_in (e % 512) c.marks ≡ false → Left (suc k) (leave_entry_w v e)
    unfolding leave_entry_w
    it_leaves q = rw (marked_same, q) (record {
      scoped = scoped_trans L.scoped (record {
        same = λ j a b z h. other j z (λ q. let t : TYS ≤ j = h (omega (arith, room)) in omega (arith, room));
        long = push_long UNUSED UNUSED-COUNT v maker room;
      });
      env = λ i h. other (ENV + i) (λ q. omega arith) (λ q. omega (arith, room)) ∙ L.env i h;
      count = omega (arith, L.count, push_count UNUSED UNUSED-COUNT v maker room (omega arith) (omega arith) long);
      scopes = rw (spans_more q) more_scopes;
    })

    next : Left (suc k) (leave_entry_w v e)
    next = go (is_in (e % 512) c.marks) refl
      where
        go : (b : Bool) → is_in (e % 512) c.marks ≡ b → Left (suc k) (leave_entry_w v e)
        go true q = it_stays q
        go false q = it_leaves q

  left_all : (k : ℕ) → scope + k ≤ get_or w ENV-LEN 0 → Left k (left_w w scope k)
  unfolding left_w leaving entries_of with_unused
  left_all zero h = record { scoped = scoped_refl; env = λ i h. refl; count = omega arith; scopes = R.scopes }
  left_all (suc k) h =
      let L = left_all k (omega arith) in
      rw (L.env (scope + k) (omega (arith, R.scopes.few_env))) (next k (left_w w scope k) (omega arith) L)

  -- ---- All of them, and the environment is cut back
  module _ (within : scope ≤ get_or w ENV-LEN 0) where
    abbrev all : ℕ
    all = get_or w ENV-LEN 0 - scope

    done : Left all (left_w w scope all)
    done = left_all all (omega arith)

    taken : take (length c.env - scope) c.env ≡ entries_of w scope all
    taken =
        let e : all + scope ≡ get_or w ENV-LEN 0 = omega arith in
        rw (runs_env_length R, R.scopes.env) (ap (λ (m : ℕ). take all (env_of w m)) (sym e) ∙ env_take w scope all)

    still : scope ≤ get_or (left_w w scope all) ENV-LEN 0
    still = unfold with_unused in omega (
      arith,
      ap (λ (es : List Entry). length es) done.scopes.env ∙ env_length (left_w w scope all)
          (get_or (left_w w scope all) ENV-LEN 0),
      runs_env_length R,
    )

    end : END ≤ length (left_w w scope all)
    end = omega (arith, done.scoped.long, R.holds.long)

    leave_scoped : Scoped w (leave_w w scope)
    unfolding leave_w
    leave_scoped = scoped_trans done.scoped (cut_scoped done.scopes end scope still)

    pub leave_runs : Runs f (leave_w w scope) T d
        (with_unused (with_env c (drop (length c.env - scope) c.env))
        (leaving d.schema d.ast.nodes c.marks (take (length c.env - scope) c.env) c.unused))
    unfolding leave_w with_unused with_env
    leave_runs = rw taken (scoped_runs leave_scoped sound R refl refl (cut_scopes done.scopes end scope still))

    pub leave_unlined : Unlined w (leave_w w scope)
    leave_unlined = scoped_unlined leave_scoped

    pub leave_grew : Grew w (leave_w w scope) 0 0
    leave_grew = scoped_grew leave_scoped sound R
