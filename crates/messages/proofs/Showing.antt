-- A text shown after another is the joined text, and a loop of such writers is the writer of the whole.
use mathlib.Core.List.{List, [], ◌++◌}
use mathlib.Core.Path.{◌≡◌, refl, ap, ◌∙◌}
use Prim.Native.Nat.{ℕ, ◌≤◌}
use native.Mathlib.Omega.{arith}
use lib.ListN.{length}
use Rattle.writer.specs.Writes.{Writes, WritesText, Moves, hex_of}
use Rattle.writer.proofs.Writing.{writes_none, writes_as, writes_moves, full_moves, moves_none, moves_then, moves_next, Goes, goes_start, goes_next, goes_full}
use Rattle.writer.proofs.Digits.{hex_append, hex_then, hex_full}
use Rattle.messages.specs.Shown.{Sight, Seen, Shows}
use Rattle.std.specs.Prelude.{None, Option, Some}

-- ---- Texts that depend on nothing

pub text_none : {out : List ℕ} {at : ℕ} → WritesText out at [] out (Some at)
unfolding hex_of
text_none {out} {at} = record { is = λ b. writes_none out at b; moves = moves_none out at }

module _ {out : List ℕ} {at : ℕ} {a mid : List ℕ} {r : Option ℕ} (g : WritesText out at a mid r) where
  pub text_then : {n : ℕ} → r ≡ Some n → {b out' : List ℕ} {r' : Option ℕ} → WritesText mid n b out' r' → WritesText out at (a ++ b) out' r'
  text_then {n} e {b} h = record {
    is = λ l. hex_then a b (g.is l) e (h.is (omega (arith, g.moves.inside n e l, g.moves.long)));
    moves = moves_then g.moves e h.moves;
  }

  pub text_full : r ≡ None → (b : List ℕ) → WritesText out at (a ++ b) mid None
  text_full e b = record { is = λ l. hex_full a b (g.is l) e; moves = full_moves g.moves.long }

-- ---- Texts of what the slices stand for

module _ {f w out : List ℕ} {at : ℕ} {ok : Type 0} {out' : List ℕ} {r : Option ℕ} where
  pub shows_text : {s : List ℕ} → WritesText out at s out' r → Shows f w out at ok (λ v. s) out' r
  shows_text g = record { is = λ v S o b. g.is b; moves = g.moves }

  pub shows_writes : {s : List ℕ} → Writes out at (hex_of s) out' r → Shows f w out at ok (λ v. s) out' r
  shows_writes g = record { is = λ v S o b. g; moves = writes_moves g }

  -- the same text, said in another way
  pub shows_as : {a b : Sight → List ℕ} → ((v : Sight) → Seen f w v → ok → a v ≡ b v) → Shows f w out at ok a out' r → Shows f w out at ok b out' r
  shows_as e g = record { is = λ v S o b. writes_as (ap hex_of (e v S o)) (g.is v S o b); moves = g.moves }

  pub shows_where : {other : Type 0} {a : Sight → List ℕ} → ((v : Sight) → Seen f w v → other → ok) → Shows f w out at ok a out' r
      → Shows f w out at other a out' r
  shows_where e g = record { is = λ v S o b. g.is v S (e v S o) b; moves = g.moves }

pub shows_none : {f w out : List ℕ} {at : ℕ} {ok : Type 0} → Shows f w out at ok (λ v. []) out (Some at)
unfolding hex_of
shows_none {f} {w} {out} {at} = record { is = λ v S o b. writes_none out at b; moves = moves_none out at }

module _ {f w out : List ℕ} {at : ℕ} {ok : Type 0} {a : Sight → List ℕ} {mid : List ℕ} {r : Option ℕ} (g : Shows f w out at ok a mid r) where
  -- where the first came to is within the slice
  pub shows_inside : {n : ℕ} → r ≡ Some n → at ≤ length out → n ≤ length mid
  shows_inside {n} e b = omega (arith, g.moves.inside n e b, g.moves.long)

  pub shows_then : {n : ℕ} → r ≡ Some n → {b : Sight → List ℕ} {out' : List ℕ} {r' : Option ℕ} → Shows f w mid n ok b out' r'
      → Shows f w out at ok (λ v. a v ++ b v) out' r'
  shows_then e {b} h = record {
    is = λ v S o l. hex_then (a v) (b v) (g.is v S o l) e (h.is v S o (shows_inside e l));
    moves = moves_then g.moves e h.moves;
  }

  pub shows_full : r ≡ None → (b : Sight → List ℕ) → Shows f w out at ok (λ v. a v ++ b v) mid None
  shows_full e b = record { is = λ v S o l. hex_full (a v) (b v) (g.is v S o l) e; moves = full_moves g.moves.long }

-- ---- A loop of writers: to show the rest from here is to show the whole from the start
pub record Showing (f w out₀ : List ℕ) (at : ℕ) (ok : Type 0) (whole : Sight → List ℕ) (out : List ℕ) (to : ℕ) (rest : Sight → List ℕ) : Type 0 where
  pub moves : Moves out₀ at out (Some to)
  pub go : (v : Sight) → Seen f w v → ok → at ≤ length out₀ → Goes out₀ at (hex_of (whole v)) out to (hex_of (rest v))

pub showing_start : {f w out : List ℕ} {at : ℕ} {ok : Type 0} (whole rest : Sight → List ℕ) → ((v : Sight) → Seen f w v → ok → rest v ≡ whole v)
    → Showing f w out at ok whole out at rest
showing_start {f} {w} {out} {at} whole rest e = record { moves = moves_none out at; go = λ v S o b. goes_start out at _ _ b (ap hex_of (e v S o)) }

module _ {f w out₀ : List ℕ} {at : ℕ} {ok : Type 0} {whole : Sight → List ℕ} {out : List ℕ} {to : ℕ} {rest : Sight → List ℕ}
    (g : Showing f w out₀ at ok whole out to rest)
    {a : Sight → List ℕ} {mid : List ℕ} {r : Option ℕ} (h : Shows f w out to ok a mid r) (b : Sight → List ℕ)
    (e : (v : Sight) → Seen f w v → ok → rest v ≡ a v ++ b v) where
  split : (v : Sight) → Seen f w v → ok → hex_of (rest v) ≡ hex_of (a v) ++ hex_of (b v)
  split v S o = ap hex_of (e v S o) ∙ hex_append (a v) (b v)

  pub showing_next : {n : ℕ} → r ≡ Some n → Showing f w out₀ at ok whole mid n b
  showing_next q = record {
    moves = moves_next g.moves h.moves q;
    go = λ v S o l. let G = g.go v S o l in goes_next G _ _ (split v S o) (h.is v S o G.inside) q;
  }

  pub showing_full : r ≡ None → Shows f w out₀ at ok whole mid None
  showing_full q = record {
    is = λ v S o l. let G = g.go v S o l in goes_full G _ _ (split v S o) (h.is v S o G.inside) q;
    moves = full_moves (h.moves.long ∙ g.moves.long);
  }

-- The rest at once.
pub showing_last : {f w out₀ : List ℕ} {at : ℕ} {ok : Type 0} {whole : Sight → List ℕ} {out : List ℕ} {to : ℕ} {rest : Sight → List ℕ}
    → Showing f w out₀ at ok whole out to rest
    → {out' : List ℕ} {r : Option ℕ} → Shows f w out to ok rest out' r → Shows f w out₀ at ok whole out' r
showing_last g h = record {
  is = λ v S o l. let G = g.go v S o l in G.go _ _ (h.is v S o G.inside);
  moves = moves_then g.moves refl h.moves;
}
