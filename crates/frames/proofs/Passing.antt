-- Passing a line: if it is well formed, its LF stands at none of the places asked so far, and before the walk ends.
use mathlib.Core.List.{List, [], ◌∷◌}
use mathlib.Core.Path.{◌≡◌, refl, sym, ap, ◌∙◌}
use Prim.Native.Nat.{ℕ, ◌+◌, ◌-◌, ◌*◌, ◌/◌, ◌<◌, ◌≤◌}
use native.Mathlib.Omega.{arith}
use lib.ListN.{length, get_or, take, drop}
use lib.Seq.{take-length}
use Rattle.format.specs.Lines.{LF, lines}
use Rattle.sigla_hex.specs.Digits.{pair_at, line_at}
use Rattle.sigla_hex.proofs.Line.{pair_digits, lines_at_LF, lines_split, others_on, others, head_line, decoded_at, others_at}
use Rattle.sigla_hex.proofs.Bytes.{From, ends, more, from, bytes_of_lem, line_at_lem, line_takes, line_spells}
use Rattle.frames.specs.Promises.{BytesAt, PassesOver}
use Rattle.frames.proofs.Decoding.{holds_line}
use Rattle.std.specs.Prelude.{min, None, Some}
use Rattle.std.proofs.lemmas.List.{get_or-take}
use Rattle.std.proofs.lemmas.Option.{same_Some}

-- ---- The characters of a line

record Spelled (f : List ℕ) (at : ℕ) (line : List ℕ) (n : ℕ) : Type 0 where
  first : pair_at f at ≡ Some (get_or line 0 0)
  inner : (k : ℕ) → k < 2 * n → get_or f (at + k) 0 ≡ LF → ⊥
  close : get_or f (at + 2 * n) 0 ≡ LF

spelled : {f : List ℕ} {at : ℕ} {line : List ℕ} {n next : ℕ} → BytesAt f at line n next → Spelled f at line n
spelled {f} {at} {line} {n} {next} h =
    let r = line_spells f at (take n line) (holds_line f at line n next h) in
    let z : at + 2 * 0 ≡ at = omega arith in
    record {
      first = rw z at (r.pairs 0 (omega (arith, h.some, h.count))) ∙ ap Some (get_or-take n line 0 0 h.some);
      inner = λ k l. r.inner k (omega (arith, h.count));
      close = rw h.count at r.close;
    }

-- ---- The walk

-- If the line is well formed, its LF stands from i on, and before `end`.
pub record Seeking (f : List ℕ) (at kind end i : ℕ) : Type 0 where
  pub first : pair_at f at ≡ Some kind
  pub inside : end ≤ length f
  pub most : end ≤ at + 1025
  pub onward : at + 2 ≤ i
  pub even : i ≡ at + 2 * ((i - at) / 2)
  pub later : {line : List ℕ} {n next : ℕ} → BytesAt f at line n next → i ≤ at + 2 * n
  pub before : {line : List ℕ} {n next : ℕ} → BytesAt f at line n next → at + 2 * n < end

-- a byte's two digits have room
pub some_room : (f : List ℕ) (at kind : ℕ) → Some kind ≡ pair_at f at → at + 1 < length f
some_room f at kind e = (pair_digits f at kind (sym e)).room

pub seeking_start : (f : List ℕ) (at kind : ℕ) → Some kind ≡ pair_at f at → Seeking f at kind (min (length f) (at + 1025)) (at + 2)
seeking_start f at kind e = record {
  first = sym e;
  inside = omega arith;
  most = omega arith;
  onward = omega arith;
  even = omega arith;
  later = λ h. omega (arith, h.some);
  before = λ h. omega (arith, h.most, h.on, h.within);
}

pub passes_short : (f : List ℕ) (at : ℕ) → length f - at < 2 → PassesOver f at None
passes_short f at l = record { holds = λ h. absurd (omega (arith, h.some, h.on, h.within)); fits = tt }

pub passes_none : (f : List ℕ) (at : ℕ) → None ≡ pair_at f at → PassesOver f at None
passes_none f at e = record { holds = λ h. let x = spelled h in cc (x.first, e); fits = tt }

module _ {f : List ℕ} {at kind end i : ℕ} (m : Seeking f at kind end i) where
  -- LF stands at none of the next so many places.
  seeking_past : (p : ℕ) → ((k : ℕ) → k < p → get_or f (i + 2 * k) 0 ≡ LF → ⊥) → Seeking f at kind end (i + 2 * p)
  seeking_past p other = record {
    first = m.first;
    inside = m.inside;
    most = m.most;
    onward = omega (arith, m.onward);
    even = omega (arith, m.even, m.onward);
    later = λ {line} {n} h.
        let k = (at + 2 * n - i) / 2 in
        let there : at + 2 * n ≡ i + 2 * k = omega (arith, m.later h, m.even) in
        let not_there : k < p → ⊥ = λ l. other k l (rw (← there) (spelled h).close) in
        omega (arith, there, not_there);
    before = m.before;
  }

  pub seeking_on : (get_or f i 0 ≡ LF → ⊥) → Seeking f at kind end (i + 2)
  seeking_on other = seeking_past 1 (λ k l e. let z : i + 2 * k ≡ i = omega arith in other (rw z at e))

  pub seeking_on_16 : ((k : ℕ) → k < 16 → get_or f (i + k) 0 ≡ LF → ⊥) → Seeking f at kind end (i + 16)
  seeking_on_16 other = seeking_past 8 (λ k l. other (2 * k) (omega arith))

  pub passes_here : i < end → get_or f i 0 ≡ LF → PassesOver f at (Some (kind, (i - at) / 2, i + 1))
  passes_here l e = record {
    holds = λ {line} {n} {next} h.
        let x = spelled h in
        let t : i ≡ at + (i - at) = omega (arith, m.onward) in
        let not_before : i - at < 2 * n → ⊥ = λ b. x.inner (i - at) b (rw t at e) in
        let here : i ≡ at + 2 * n = omega (arith, m.later h, m.onward, not_before) in
        let first : kind ≡ get_or line 0 0 = same_Some _ _ (sym m.first ∙ x.first) in
        let many : (i - at) / 2 ≡ n = omega arith in
        let on : i + 1 ≡ next = omega (arith, h.on) in
        cc;
    fits = record {
      some = omega (arith, m.onward, m.even);
      most = omega (arith, m.most, m.even);
      on = omega (arith, m.even);
      within = omega (arith, m.inside);
    };
  }

  pub passes_over : end ≤ i → PassesOver f at None
  passes_over l = record { holds = λ h. absurd (omega (arith, m.later h, m.before h)); fits = tt }

pub ruleset passing = (some_room, seeking_start, passes_short, passes_none)

-- ---- Each well-formed line is one that `decode` gives.

others_of : (f : List ℕ) (at : ℕ) (s : List ℕ) → decoded_at f at ≡ Some s → others_at f at ≡ lines (drop (at + 2 * length s + 1) f)
others_of f at [] e = go (from f at [] e)
  where
    go : From f at [] → others_at f at ≡ lines (drop (at + 2 * 0 + 1) f)
    go (ends h q) = let z : at + 2 * 0 + 1 ≡ at + 1 = omega arith in rw z (ap others (lines_at_LF f at h q))
others_of f at (b ∷ s) e = go (from f at (b ∷ s) e) (λ r. others_of f (at + 2) s r)
  where
    go : From f at (b ∷ s) → (decoded_at f (at + 2) ≡ Some s → others_at f (at + 2) ≡ lines (drop (at + 2 + 2 * length s + 1) f))
        → others_at f at ≡ lines (drop (at + 2 * length (b ∷ s) + 1) f)
    go (more q r) on = let z : at + 2 * length (b ∷ s) + 1 ≡ at + 2 + 2 * length s + 1 = omega arith in rw z (others_on f at q ∙ on r)

pub bytes_at : (f : List ℕ) (at : ℕ) (s : List ℕ) → line_at f at ≡ Some s → BytesAt f at s (length s) (at + 2 * length s + 1)
bytes_at f at s e =
    let t = line_takes f at s e in
    let r = line_spells f at s e in
    record {
      first = head_line (lines (drop at f));
      splits = lines_split f at (omega (arith, r.within)) ∙ ap (λ ls. head_line (lines (drop at f)) ∷ ls) (others_of f at s t.is);
      bytes = bytes_of_lem (head_line (lines (drop at f))) ∙ sym (line_at_lem f at) ∙ e ∙ ap Some (sym (take-length s));
      count = ap length (take-length s);
      some = t.some;
      most = t.most;
      on = refl;
      within = omega (arith, r.within);
    }
