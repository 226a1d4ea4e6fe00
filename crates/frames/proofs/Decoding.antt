-- Reading a line from its start: the bytes read so far, in front of what the line holds from here on, are what it
-- holds.
use mathlib.Core.Bool.{Bool, true, false}
use mathlib.Core.List.{List, [], ◌∷◌, ◌++◌, append-nil}
use mathlib.Core.Path.{◌≡◌, refl, sym, ap, ◌∙◌}
use Prim.Native.Nat.{ℕ, suc, ◌+◌, ◌-◌, ◌*◌, ◌/◌, ◌<◌, ◌≤◌, min}
use native.Mathlib.Numerals.{add-one}
use native.Mathlib.Omega.{arith}
use lib.Dec.{ltb, eqb}
use lib.ListN.{length, get_or, take, drop, set, length-append, length-set}
use lib.Seq.{take-suc-set, length-take-le, take-append-add}
use borrow.Rule.Slice.PartMut.{put_mid, mid_of, post_of}
use Rattle.std.proofs.lemmas.List.{places, take-append-le, get_or-take}
use Rattle.format.specs.Lines.{LF, lines, digit, decoded, some_bytes}
use Rattle.sigla_hex.specs.Digits.{byte_of, pair_at, first_line, line_at}
use Rattle.sigla_hex.proofs.Line.{pair_within, pair_past, decoded_none, lines_at_end, head_line, others, decoded_line, decoded_at, others_at, prefixed}
use Rattle.sigla_hex.proofs.Line.{prefixed_nil, prefixed_twice, lines_at_LF, lines_split, decoded_on, others_on}
use Rattle.sigla_hex.proofs.Bytes.{From, ends, from, bytes_of_lem, bytes_enough, bytes_too_many}
use Rattle.frames.specs.Promises.{BytesAt, MalformedAt, Decodes}
use borrow.Author.Tests.{ltb-true, ltb-false, eqb-true, eqb-false}
use Rattle.format.proofs.Tests.{cases}
use mathlib.Core.Logic.{◌⊎◌, inl, inr}
use Rattle.std.specs.Prelude.{None, Option, Some}

-- ---- Two digits

module _ (f : List ℕ) (i : ℕ) where
  no_pair : byte_of (digit (get_or f i 0)) (digit (get_or f (i + 1) 0)) ≡ None → None ≡ pair_at f i
  unfolding pair_at
  no_pair e = go (ltb (i + 1) (length f))
    where
      go : (t : Bool) → ◌≡◌ {A = Option ℕ} None (elim t [ true ↦ byte_of (digit (get_or f i 0)) (digit (get_or f (i + 1) 0)) | false ↦ None ])
      go true = sym e
      go false = refl

  pub no_high : digit (get_or f i 0) ≡ None → None ≡ pair_at f i
  unfolding byte_of
  no_high e = no_pair (rw e)

  module _ {h : ℕ} (high : digit (get_or f i 0) ≡ Some h) where
    pub no_low : digit (get_or f (i + 1) 0) ≡ None → None ≡ pair_at f i
    unfolding byte_of
    no_low e = no_pair (rw (high, e))

    pub both_digits : {l : ℕ} → i + 1 < length f → digit (get_or f (i + 1) 0) ≡ Some l → Some (h * 16 + l) ≡ pair_at f i
    unfolding byte_of
    both_digits room low = rw (pair_within f i room, high, low)

-- ---- The bytes of the pairs from a place on

pub decoded_by : (f : List ℕ) (i : ℕ) (s : List ℕ) → ((k : ℕ) → k < length s → pair_at f (i + 2 * k) ≡ Some (get_or s k 0))
    → decoded_at f i ≡ prefixed s (decoded_at f (i + 2 * length s)) × others_at f i ≡ others_at f (i + 2 * length s)
decoded_by f i [] h = let z : i + 2 * 0 ≡ i = omega arith in rw z (sym (prefixed_nil (decoded_at f i)), refl)
decoded_by f i (b ∷ s) h =
    let here : pair_at f i ≡ Some b = let z : i + 2 * 0 ≡ i = omega arith in rw z at (h 0 (omega arith)) in
    let on : (k : ℕ) → k < length s → pair_at f (i + 2 + 2 * k) ≡ Some (get_or s k 0) = λ k l.
    let z : i + 2 * suc k ≡ i + 2 + 2 * k = omega arith in
    rw z at (h (suc k) (omega (arith, l))) in
    let rest = decoded_by f (i + 2) s on in
    let end : i + 2 + 2 * length s ≡ i + 2 * suc (length s) = omega arith in
    let first = decoded_on f i here ∙ ap (prefixed (b ∷ [])) rest.0 ∙ prefixed_twice (b ∷ []) s (decoded_at f (i + 2 + 2 * length s)) in
    (rw end at first, rw end at (others_on f i here ∙ rest.1))

-- ---- The walk

-- n bytes of the line at `at` are read, and it goes on at i.
pub record SoFar (f : List ℕ) (at : ℕ) (line : List ℕ) (i n : ℕ) : Type 0 where
  pub from : i ≡ at + 2 * n
  pub most : n ≤ 512
  pub room : length line ≡ 512
  pub holds : decoded_at f at ≡ prefixed (take n line) (decoded_at f i)
  pub then : others_at f at ≡ others_at f i

pub at_start : (f : List ℕ) (at : ℕ) (line : List ℕ) → length line ≡ 512 → SoFar f at line at 0
at_start f at line e = record { from = omega arith; most = omega arith; room = e; holds = sym (prefixed_nil (decoded_at f at)); then = refl }

pub from_start : (f : List ℕ) (at : ℕ) (line : List ℕ) → length line ≡ 512 → SoFar f at line (at + 2 * 0) 0
from_start f at line e = let z : at + 2 * 0 ≡ at = omega arith in rw z (at_start f at line e)

module _ {f : List ℕ} {at : ℕ} {line : List ℕ} {i n : ℕ} (r : SoFar f at line i n) where
  pub one_on : (b : ℕ) → n < 512 → pair_at f i ≡ Some b → SoFar f at (set line n b) (i + 2) (n + 1)
  one_on b h e =
      let within : n < length line = omega (arith, r.room) in
      let longer : take (n + 1) (set line n b) ≡ take n line ++ (b ∷ []) = rw add-one (take-suc-set line n b within) in
      record {
        from = omega (arith, r.from);
        most = omega arith;
        room = length-set line n b ∙ r.room;
        holds = r.holds ∙ ap (prefixed (take n line)) (decoded_on f i e) ∙ prefixed_twice (take n line) (b ∷ []) (decoded_at f (i + 2)) ∙ ap
            (λ s. prefixed s (decoded_at f (i + 2))) (sym longer);
        then = r.then ∙ others_on f i e;
      }

  -- Eight bytes from n on were lent, and are s now; the first m are those of the pairs.
  module _ (s : List ℕ) (m : ℕ) (few : m ≤ 8) (fits : n + 8 ≤ 512) (same : length s ≡ length (mid_of n (n + 8 - n) line)) where
    eight : length s ≡ 8
    eight = same ∙ (let e = r.room in grind (arith, places))

    room_yet : length (put_mid n (n + 8 - n) line s) ≡ 512
    room_yet = let e = r.room in let l = eight in grind (arith, places)

    longer : take (n + m) (put_mid n (n + 8 - n) line s) ≡ take n line ++ take m s
    longer =
        let whole = put_mid n (n + 8 - n) line s in
        ap (λ j. take (j + m) whole) (sym (length-take-le n line (omega (arith, r.room, r.most))))
        ∙ take-append-add (take n line) (s ++ post_of n (n + 8 - n) line) m
        ∙ ap (λ l. take n line ++ l) (take-append-le m s (post_of n (n + 8 - n) line) (omega (arith, eight)))

    pub some_on : ((k : ℕ) → k < m → pair_at f (i + 2 * k) ≡ Some (get_or s k 0)) → SoFar f at (put_mid n (n + 8 - n) line s) (i + 2 * m) (n + m)
    some_on h =
        let count : length (take m s) ≡ m = length-take-le m s (omega (arith, eight)) in
        let on : (k : ℕ) → k < length (take m s) → pair_at f (i + 2 * k) ≡ Some (get_or (take m s) k 0) = λ k l.
        rw (get_or-take m s k 0 (omega (arith, count))) (h k (omega (arith, count))) in
        let by = rw count at (decoded_by f i (take m s) on) in
        record {
          from = omega (arith, r.from);
          most = omega arith;
          room = room_yet;
          holds = r.holds ∙ ap (prefixed (take n line)) by.0 ∙ prefixed_twice (take n line) (take m s) (decoded_at f (i + 2 * m)) ∙ ap
              (λ t. prefixed t (decoded_at f (i + 2 * m))) (sym longer);
          then = r.then ∙ by.1;
        }

  module _ (begins : at < length f) where
    malformed : some_bytes (decoded_at f at) ≡ None → MalformedAt f at
    malformed e = record {
      first = head_line (lines (drop at f));
      rest = others_at f at;
      splits = lines_split f at begins;
      bytes = bytes_of_lem (head_line (lines (drop at f))) ∙ e;
    }

    pub no_bytes : decoded_at f i ≡ None → MalformedAt f at
    unfolding some_bytes
    no_bytes e = malformed (ap some_bytes (r.holds ∙ ap (prefixed (take n line)) e))

    module _ (here : i < length f) where
      closed_here : get_or f i 0 ≡ LF → decoded_at f at ≡ Some (take n line)
      unfolding decoded
      closed_here e = r.holds ∙ ap (prefixed (take n line)) (ap (λ ls. decoded_line (head_line ls)) (lines_at_LF f i here e)) ∙ ap Some
          (append-nil (take n line))

      pub empty : get_or f i 0 ≡ LF → n ≡ 0 → MalformedAt f at
      unfolding some_bytes
      empty e z = malformed (ap some_bytes (closed_here e ∙ ap (λ k. Some (take k line)) z))

      pub whole : get_or f i 0 ≡ LF → (n ≡ 0 → ⊥) → BytesAt f at line n (i + 1)
      whole e z =
          let some_byte : 0 < n = omega arith in
          let long : length (take n line) ≡ n = length-take-le n line (omega (arith, r.room, r.most)) in
          record {
            first = head_line (lines (drop at f));
            splits = lines_split f at begins ∙ ap (λ ls. head_line (lines (drop at f)) ∷ ls) (r.then ∙ ap others (lines_at_LF f i here e));
            bytes = bytes_of_lem (head_line (lines (drop at f))) ∙ ap some_bytes (closed_here e) ∙ bytes_enough (take n line) (omega (arith, long))
                (omega (arith, long, r.most));
            count = long;
            some = some_byte;
            most = r.most;
            on = omega (arith, r.from);
            within = omega arith;
          }

      pub too_long : (get_or f i 0 ≡ LF → ⊥) → 512 ≤ n → MalformedAt f at
      unfolding some_bytes
      too_long other h = malformed (ap some_bytes r.holds ∙ go (decoded_at f i) refl)
        where
          not_here : From f i [] → ⊥
          not_here (ends h q) = other q

          go : (o : Option (List ℕ)) → decoded_at f i ≡ o → some_bytes (prefixed (take n line) o) ≡ None
          go None e = refl
          go (Some []) e = absurd (not_here (from f i [] e))
          go (Some (b ∷ s)) e =
              bytes_too_many
              (take n line ++ b ∷ s)
              (omega (arith, length-append (take n line) (b ∷ s), length-take-le n line (omega (arith, r.room, r.most))))

-- ---- The answers

pub bad : {f : List ℕ} {at : ℕ} {line : List ℕ} {i n : ℕ} → SoFar f at line i n → (at < length f → MalformedAt f at) → Decodes f at line None
bad r m = record { room = r.room; holds = tt; fails = λ _. m }

pub good : {f : List ℕ} {at : ℕ} {line : List ℕ} {i n next : ℕ} → SoFar f at line i n → BytesAt f at line n next → Decodes f at line (Some (n, next))
good r h = record { room = r.room; holds = h; fails = λ e _. cc }

-- No pair follows, or there are too many, and no LF ends what was read.
pub not_closed : {f : List ℕ} {at : ℕ} {line : List ℕ} {i n : ℕ} → SoFar f at line i n → (512 ≤ n) ⊎ (pair_at f i ≡ None)
    → (0 < n → i < length f → get_or f i 0 ≡ LF → ⊥) → Decodes f at line None
not_closed {f} {at} {line} {i} {n} r why other = bad r (λ begins. cases (ltb i (length f)) (λ q. here begins (ltb-true i (length f) q))
    (λ q. no_bytes r begins (ap (λ ls. decoded_line (head_line ls)) (lines_at_end f i (ltb-false i (length f) q)))))
  where
    goes_on : at < length f → i < length f → (get_or f i 0 ≡ LF → ⊥) → (512 ≤ n) ⊎ (pair_at f i ≡ None) → MalformedAt f at
    goes_on begins h o (inl many) = too_long r begins h o many
    goes_on begins h o (inr e) = no_bytes r begins (decoded_none f i h o e)

    here : at < length f → i < length f → MalformedAt f at
    here begins h = cases (eqb (get_or f i 0) LF)
        (λ q. cases (ltb 0 n) (λ p. absurd (other (ltb-true 0 n p) h (eqb-true (get_or f i 0) LF q)))
        (λ p. empty r begins h (eqb-true (get_or f i 0) LF q) (omega (arith, ltb-false 0 n p))))
        (λ q. goes_on begins h (eqb-false (get_or f i 0) LF q) why)

-- No more pairs fit in the file, or in the line.
pub no_more : (f : List ℕ) (at n most : ℕ) → most ≡ min ((length f - at) / 2) 512 → most ≤ n → (512 ≤ n) ⊎ (pair_at f (at + 2 * n) ≡ None)
no_more f at n most e h = cases (ltb n 512) (λ q. inr (pair_past f (at + 2 * n) (let few = ltb-true n 512 q in omega (arith, e))))
    (λ q. inl (ltb-false n 512 q))

pub ruleset pairs = (pair_past, no_high, no_low, both_digits)

-- The same by the line at a place.
pub holds_line : (f : List ℕ) (at : ℕ) (line : List ℕ) (n next : ℕ) → BytesAt f at line n next → line_at f at ≡ Some (take n line)
unfolding line_at
holds_line f at line n next h = ap first_line h.splits ∙ h.bytes
