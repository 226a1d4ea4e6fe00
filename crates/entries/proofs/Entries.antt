-- The n-th entry of a file. It is refused as the full check is, its length left aside (`sought_refused`); where it is
-- found, it was made in the file's run, whose entries before it led to it (`own_entry`); and a query's run that is to
-- last until it ends right before it, with its sides and bindings (`stops_at`).
use mathlib.Core.List.{List, [], ◌∷◌, ◌++◌}
use mathlib.Core.Logic.{◌↔◌, by_cases}
use mathlib.Core.Path.{◌≡◌, refl, sym, ap, ◌∙◌, subst}
use Prim.Native.Nat.{ℕ, zero, suc, ◌+◌, ◌-◌, ◌<◌, ◌≤◌}
use native.Mathlib.Decide.{dec_lt}
use native.Mathlib.Omega.{arith}
use lib.Dec.{ltb}
use lib.ListN.{length, replicate}
use Rattle.unification.specs.Ty.{Ty}
use Rattle.unification.specs.Bindings.{History}
use Rattle.unification.specs.Calls.{UnifyEntry}
use Rattle.unification.proofs.Tests.{clash}
use Rattle.format.specs.Syntax.{Ast}
use Rattle.format.specs.Schema.{Schema}
use Rattle.format.specs.Refusal.{Refusal}
use Rattle.format.specs.All.{All, Each}
use Rattle.format.specs.File.{Form, view_of, Reading, refused, described, reading}
use Rattle.format.specs.Sound.{Sound}
use Rattle.meaning.specs.Messages.{text_in}
use Rattle.meaning.specs.Check.{Checker, Step, goes, out, entry, begin_until, query, Typed, typed, checked, check, reversed, lasting}
use Rattle.meaning.specs.Run.{ending, run}
use Rattle.meaning.specs.Entries.{EntryLed, EntriesLead, no_entry, rolled_back, then_entry, EntryOfRun}
use Rattle.meaning.specs.Outcome as Outcome
use Rattle.meaning.specs.Outcome.{min_words, max_visits, answered, decide_run, decide_read, decide, run_all}
use Rattle.format.proofs.Tests.{cases}
use Rattle.meaning.proofs.Forms.{Ran, Runs, all_ran, one_out, runs}
use Rattle.meaning.proofs.Run.{sound_well_formed, run_entries}
use Rattle.format.proofs.Sound.{sound}
use Rattle.laws.proofs.Agree.{Lit, dark_goes, dark_out, shines, NoneRegained}
use Rattle.laws.proofs.Until.{run_until_lem}
use Rattle.entries.specs.Entries.{entries_of, entries_all, nth, found, turned_down, among, sought_run, sought_read, entry_at, FallsIn, here, later, OwnEntry}
use Rattle.std.specs.Prelude.{None, Option, Some}

-- ---- Lists, the oldest first

reversed_append : {A : Type 0} (xs ys zs : List A) → reversed (xs ++ ys) zs ≡ reversed ys (reversed xs zs)
unfolding reversed
reversed_append [] ys zs = refl
reversed_append (x ∷ xs) ys zs = reversed_append xs ys (x ∷ zs)

nth_behind : {A : Type 0} (xs ys : List A) (k : ℕ) → nth (reversed xs ys) (length xs + k) ≡ nth ys k
unfolding reversed nth
nth_behind [] ys k = let e : 0 + k ≡ k = omega arith in rw e
nth_behind (x ∷ xs) ys k = let e : length (x ∷ xs) + k ≡ length xs + suc k = omega arith in rw e (nth_behind xs (x ∷ ys) (suc k))

-- The one that so many others are older than.
nth_newer : {A : Type 0} (newer older : List A) (x : A) → nth (reversed (newer ++ x ∷ older) []) (length older) ≡ Some x
unfolding reversed nth
nth_newer newer older x =
    let k : length older ≡ length older + 0 = omega arith in
    rw k (ap {B = Option _} (λ es. nth es (length older + 0)) (reversed_append newer (x ∷ older) []) ∙ nth_behind older (x ∷ reversed newer []) 0)

length_reversed : {A : Type 0} (xs ys : List A) → length (reversed xs ys) ≡ length xs + length ys
unfolding reversed
length_reversed [] ys = omega arith
length_reversed (x ∷ xs) ys = omega (arith, length_reversed xs (x ∷ ys))

-- One list behind another.
pub nth_first : {A : Type 0} (xs ys : List A) (n : ℕ) → n < length xs → nth (xs ++ ys) n ≡ nth xs n
unfolding nth
nth_first [] ys n h = absurd (omega arith)
nth_first (x ∷ xs) ys zero h = refl
nth_first (x ∷ xs) ys (suc n) h = nth_first xs ys n (omega arith)

pub nth_later : {A : Type 0} (xs ys : List A) (n : ℕ) → nth (xs ++ ys) (length xs + n) ≡ nth ys n
unfolding nth
nth_later [] ys n = let e : 0 + n ≡ n = omega arith in rw e
nth_later (x ∷ xs) ys n = let e : length (x ∷ xs) + n ≡ suc (length xs + n) = omega arith in rw e (nth_later xs ys n)

pub nth_none : {A : Type 0} (xs : List A) (n : ℕ) → length xs ≤ n → nth xs n ≡ None
unfolding nth
nth_none [] n h = refl
nth_none (x ∷ xs) zero h = absurd (omega arith)
nth_none (x ∷ xs) (suc n) h = nth_none xs n (omega arith)

-- ---- A query's run that is to last until its n-th entry

module _ (schema : Schema) (a : Ast) where
  abbrev run_to : ℕ → Step Ty
  run_to n = query schema a.nodes a.query (begin_until (entry n) max_visits (length a.nodes))

  -- Where it stopped: before the n-th entry of the whole run, whose sides were noted and whose bindings are those of
  -- that moment.
  pub record StopsAt (n : ℕ) : Type 0 where
    pub at : Checker
    pub is : run_to n ≡ out at
    pub here : UnifyEntry
    pub older : List UnifyEntry
    pub newest : at.entries ≡ here ∷ older
    pub count : length older ≡ n
    pub before : here.before ≡ at.state.subst
    pub nth_is : nth (entries_of schema a) n ≡ Some here

  module _ (ty : Ty) (c : Checker) (e : run schema a max_visits ≡ goes ty c) where
    -- The entries are those of the checker in which it ends.
    pub entries_are : entries_of schema a ≡ reversed c.entries []
    unfolding entries_of ending
    entries_are = rw e

    pub entries_many : length (entries_of schema a) ≡ length c.entries
    entries_many = ap length entries_are ∙ omega (arith, length_reversed c.entries [])

    pub stops_at : (n : ℕ) → n < length (entries_of schema a) → StopsAt n
    unfolding ending reversed nth
    stops_at n h = go (run schema a max_visits) (run_to n) refl e (run_until_lem schema a (entry n) max_visits)
      where
        go : (s s' : Step Ty) → run_to n ≡ s' → s ≡ goes ty c → Lit (entry n) s s' → StopsAt n
        go s s' is q (dark_goes t b z) = let same : b ≡ c = cc q in absurd (omega (arith, entries_many, ap (λ (x : Checker). length x.entries) same))
        go s s' is q (dark_out b z) = clash (cc q)
        go s s' is q (shines _ b (x, older, p, m, f) l r) =
            let all : c.entries ≡ l.entered ++ x ∷ older = sym (ap (λ (k : Step Ty). (ending k).entries) q) ∙ l.entries ∙ ap {B = List UnifyEntry}
            (λ es. l.entered ++ es) p in
            record {
              at = b;
              is = is;
              here = x;
              older = older;
              newest = p;
              count = m;
              before = f;
              nth_is = ap {B = Option UnifyEntry} (λ es. nth es n) (entries_are ∙ ap {B = List UnifyEntry} (λ es. reversed es []) all)
                  ∙ subst (λ k. nth (reversed (l.entered ++ x ∷ older) []) k ≡ Some x) m (nth_newer l.entered older x);
            }

    -- It is the beginning of the whole run: more visits are left.
    pub no_more_made : (n : ℕ) → c.state.left ≤ (ending (run_to n)).state.left
    unfolding ending lasting
    no_more_made n = go (run schema a max_visits) (run_to n) e (run_until_lem schema a (entry n) max_visits)
      where
        go : (s s' : Step Ty) → s ≡ goes ty c → Lit (entry n) s s' → c.state.left ≤ (ending s').state.left
        go s s' q (dark_goes t b z) = let same : b ≡ c = cc q in omega (arith, ap (λ (x : Checker). x.state.left) same)
        go s s' q (dark_out b z) = clash (cc q)
        go s s' q (shines _ b p l r) = subst (NoneRegained b) q r

-- ---- An entry in its run

-- Entries that lead from one history to another, split at the k-th, the oldest being the 0th.
record SplitAt (v : ℕ) (tys : List (Option Ty)) (from : History) (es : List UnifyEntry) (h : History) (k : ℕ) : Type 0 where
  here : UnifyEntry
  led : EntryLed v tys here
  older : List UnifyEntry
  newer : List UnifyEntry
  is : es ≡ newer ++ here ∷ older
  count : length older ≡ k
  to_it : EntriesLead v tys from older led.at.state.history
  from_it : EntriesLead v tys led.after.history newer h

split_at : {v : ℕ} {tys : List (Option Ty)} {from : History} {es : List UnifyEntry} {h : History} → EntriesLead v tys from es h → (k : ℕ)
    → k < length es → SplitAt v tys from es h k
split_at no_entry k p = absurd (omega arith)
split_at (rolled_back past s s' l) k p =
    let S = split_at l k p in
    record {
      here = S.here;
      led = S.led;
      older = S.older;
      newer = S.newer;
      is = S.is;
      count = S.count;
      to_it = S.to_it;
      from_it = rolled_back past s s' S.from_it;
    }
split_at (then_entry {es} {e = e} l led q) k p = by_cases (dec_lt k (length es))
    (λ i. let S = split_at l k i in record {
      here = S.here;
      led = S.led;
      older = S.older;
      newer = e ∷ S.newer;
      is = ap {B = List UnifyEntry} (λ xs. e ∷ xs) S.is;
      count = S.count;
      to_it = S.to_it;
      from_it = then_entry S.from_it led q;
    })
    (λ i. record {
      here = e;
      led = led;
      older = es;
      newer = [];
      is = refl;
      count = omega arith;
      to_it = rw q l;
      from_it = no_entry;
    })

module _ (form : Form) where
  abbrev EntryIn : Ast → ℕ → UnifyEntry → Type 0
  EntryIn a k e = EntryOfRun max_visits (replicate (length a.nodes) None) (ending (run form.schema a max_visits)) k e

  own_in : (a : Ast) (t : Typed) → Sound (view_of form a) → Ran form.schema a t → (k : ℕ) → k < length (entries_of form.schema a) → (e : UnifyEntry)
      → nth (entries_of form.schema a) k ≡ Some e → EntryIn a k e
  unfolding check run checked view_of ending reversed nth
  own_in a t s r k p e h = go (run form.schema a max_visits) refl
    where
      go : (x : Step Ty) → run form.schema a max_visits ≡ x → EntryIn a k e
      go (goes ty c) q =
          let L = run_entries form.schema a (sound_well_formed (view_of form a) s) max_visits ty c q in
          let S = split_at L k (omega (arith, entries_many form.schema a ty c q)) in
          let there : nth (entries_of form.schema a) k ≡ Some S.here =
          ap {B = Option UnifyEntry} (λ es. nth es k) (entries_are form.schema a ty c q ∙ ap {B = List UnifyEntry} (λ es. reversed es []) S.is)
          ∙ subst (λ m. nth (reversed (S.newer ++ S.here ∷ S.older) []) m ≡ Some S.here) S.count (nth_newer S.newer S.older S.here) in
          let same : S.here ≡ e = cc (h, there) in
          rw q (subst (λ x. EntryOfRun max_visits (replicate (length a.nodes) None) c k x) same (record {
            led = S.led;
            older = S.older;
            newer = S.newer;
            is = S.is;
            count = S.count;
            to_it = S.to_it;
            from_it = S.from_it;
          }))
      go (out c) q = let z : checked max_visits (out c) ≡ typed t = ap (checked max_visits) (sym q) ∙ r in clash (cc z)

  own_among : (qs : List Ast) (ts : List Typed) → All (λ a. Sound (view_of form a)) qs → Each (Ran form.schema) qs ts → (n : ℕ) (e : UnifyEntry)
      → nth (entries_all form.schema qs) n ≡ Some e → (a : Ast) × (k : ℕ) × FallsIn form.schema qs n a k × EntryIn a k e
  unfolding entries_all nth
  own_among [] ts s r n e h = clash (cc h)
  own_among (a ∷ qs) [] s r n e h = absurd r
  own_among (a ∷ qs) (t ∷ ts) s r n e h =
      let first = entries_of form.schema a in
      by_cases (dec_lt n (length first))
      (λ p. (a, n, here p, own_in a t s.0 r.0 n p e (sym (nth_first first (entries_all form.schema qs) n p) ∙ h)))
      (λ p.
      let m = n - length first in
      let is : n ≡ length first + m = omega arith in
      let y = own_among qs ts s.1 r.1 m e (sym (nth_later first (entries_all form.schema qs) m)
      ∙ subst (λ i. nth (first ++ entries_all form.schema qs) i ≡ Some e) is h) in
      (y.0, y.1, subst (λ i. FallsIn form.schema (a ∷ qs) i y.0 y.1) (sym is) (later y.2), y.3))

-- ---- The whole

module _ (file : List ℕ) (n words : ℕ) where
  -- "1 to 11 and 13 as for the full check"
  pub sought_refused : (r : Refusal) → (decide file words ≡ Outcome.turned_down r) ↔ (entry_at file n words ≡ turned_down r)
  unfolding decide decide_read decide_run entry_at sought_read sought_run among
  sought_refused r = cases (ltb words min_words) (λ q. rw (q, decide, entry_at) same) (λ q. rw (q, decide, entry_at) (read (reading file)))
    where
      same : {i : Refusal} → (Outcome.turned_down i ≡ Outcome.turned_down r) ↔ (turned_down i ≡ turned_down r)
      same {i} = (λ e. let z : i ≡ r = cc in ap turned_down z, λ e. let z : i ≡ r = cc in ap Outcome.turned_down z)

      never : (o : Option UnifyEntry) → among o ≡ turned_down r → ⊥
      never None e = clash (cc e)
      never (Some x) e = clash (cc e)

      run_by : (schema : Schema) (qs : List Ast) (f : Form) (o : Option (List Typed))
          → (decide_run (text_in f) o ≡ Outcome.turned_down r) ↔ (sought_run schema qs n o ≡ turned_down r)
      run_by schema qs f None = same
      run_by schema qs f (Some ts) = (λ e. clash (cc e), λ e. absurd (never (nth (entries_all schema qs) n) e))

      read : (x : Reading) → (decide_read x ≡ Outcome.turned_down r) ↔ (sought_read n x ≡ turned_down r)
      read (refused i) = same
      read (described f) = run_by f.schema f.queries f (run_all f.schema f.queries)

  -- Where it is found, it was made in the file's run, which led to it.
  pub own_entry : (e : UnifyEntry) → entry_at file n words ≡ found e → OwnEntry file n e
  unfolding entry_at sought_read sought_run among
  own_entry e z = cases (ltb words min_words) (λ q. let k : turned_down _ ≡ found e = rw (q, entry_at) at z in clash (cc k))
      (λ q. read (reading file) refl (rw (q, entry_at) at z))
    where
      is_some : (o : Option UnifyEntry) → among o ≡ found e → o ≡ Some e
      is_some None h = clash (cc h)
      is_some (Some x) h = let k : x ≡ e = cc h in ap Some k

      by : (f : Form) → reading file ≡ described f → {o : Option (List Typed)} → Runs f.schema f.queries o
          → sought_run f.schema f.queries n o ≡ found e → OwnEntry file n e
      by f p (all_ran ts r) h =
          let y = own_among f f.queries ts (sound file f p) r n e (is_some (nth (entries_all f.schema f.queries) n) h) in
          record { form = f; reads = p; query = y.0; k = y.1; falls = y.2; made = y.3 }
      by f p (one_out r) h = clash (cc h)

      read : (x : Reading) → reading file ≡ x → sought_read n (reading file) ≡ found e → OwnEntry file n e
      read (refused i) p h = let k : turned_down i ≡ found e = rw p at h in clash (cc k)
      read (described f) p h = by f p (runs f.schema f.queries) (rw p at h)
