-- A node's span stands in the file as the answer writes it: a byte's digits are those of its two halves, so a line's
-- text is `hex_line` of its bytes, and the first eight of a node's content are its span's.
use mathlib.Core.List.{List, [], ◌∷◌, ◌++◌, append_assoc}
use mathlib.Core.Path.{◌≡◌, refl, sym, ◌∙◌, ap}
use Prim.Native.Nat.{ℕ, suc, ◌+◌, ◌*◌, ◌/◌, ◌%◌, ◌≤◌, ◌<◌}
use native.Mathlib.Nat.{zero-lt-suc}
use native.Mathlib.Omega.{arith}
use lib.ListN.{length, get_or, take, drop}
use lib.Seq.{drop-cons}
use Rattle.work.specs.Layout.{NODES}
use Rattle.format.specs.Lines.{digit}
use Rattle.format.specs.Syntax.{Node}
use Rattle.format.specs.Frame.{got, four, two, byte, pair, one, and_then}
use Rattle.format.specs.Bytes.{bytes₂, bytes₄, hex_digit, hex_line}
use Rattle.format.proofs.Hex.{digit_of}
use Rattle.sigla_hex.specs.Digits.{pair_at}
use Rattle.sigla_hex.proofs.Line.{digit_below, digit_same, pair_digits}
use Rattle.sigla_hex.proofs.Bytes.{line_spells, byte_of_line}
use Rattle.tree.specs.Stands.{NodeIs}
use Rattle.tree.specs.Nodes.{line_start_w}
use Rattle.tree.proofs.Readers.{no_got}
use Rattle.tree.proofs.LineParts.{parts, kind_at}
use Rattle.std.specs.Prelude.{Some}

-- ---- Digits

pub digit_is_written : (c h : ℕ) → digit c ≡ Some h → c ≡ hex_digit h
digit_is_written c h e = digit_same c (hex_digit h) h e (digit_of h (digit_below c h e))

-- ---- Bytes

pair_written : (f : List ℕ) (i b : ℕ) → pair_at f i ≡ Some b → drop i f ≡ hex_digit (b / 16) ∷ hex_digit (b % 16) ∷ drop (i + 2) f
pair_written f i b e =
    let d = pair_digits f i b e in
    let h : d.h ≡ b / 16 = omega (arith, d.is, digit_below (get_or f (i + 1) 0) d.l d.low) in
    let l : d.l ≡ b % 16 = omega (arith, d.is, digit_below (get_or f (i + 1) 0) d.l d.low) in
    let x : get_or f i 0 ≡ hex_digit (b / 16) = digit_is_written (get_or f i 0) d.h d.high ∙ ap hex_digit h in
    let y : get_or f (i + 1) 0 ≡ hex_digit (b % 16) = digit_is_written (get_or f (i + 1) 0) d.l d.low ∙ ap hex_digit l in
    let p : suc i ≡ i + 1 = omega arith in
    let q : suc (i + 1) ≡ i + 2 = omega arith in
    let first : drop i f ≡ get_or f i 0 ∷ drop (i + 1) f = drop-cons f i 0 (omega (arith, d.room)) ∙ ap (λ n. get_or f i 0 ∷ drop n f) p in
    let second : drop (i + 1) f ≡ get_or f (i + 1) 0 ∷ drop (i + 2) f = drop-cons f (i + 1) 0 d.room ∙ ap (λ n. get_or f (i + 1) 0 ∷ drop n f) q in
    cc

abbrev Pairs : List ℕ → ℕ → List ℕ → Type 0
Pairs f at s = (k : ℕ) → k < length s → pair_at f (at + 2 * k) ≡ Some (get_or s k 0)

others : (f : List ℕ) (at b : ℕ) (s : List ℕ) → Pairs f at (b ∷ s) → Pairs f (at + 2) s
others f at b s h k l = let z : at + 2 * suc k ≡ at + 2 + 2 * k = omega arith in rw z at (h (suc k) (omega arith))

-- The text where bytes stand is what the answer would write of them.
pub written : (f : List ℕ) (at : ℕ) (s t rest : List ℕ) → Pairs f at (s ++ t) → hex_line (s ++ rest) ≡ take (2 * length s) (drop at f) ++ hex_line rest
unfolding hex_line
written f at [] t rest h = refl
written f at (b ∷ s) t rest h =
    let z : 2 * suc (length s) ≡ suc (suc (2 * length s)) = omega arith in
    let y : at + 2 * 0 ≡ at = omega arith in
    rw (z, pair_written f at b (rw y at (h 0 (zero-lt-suc (length (s ++ t))))))
    (ap (λ m. hex_digit (b / 16) ∷ hex_digit (b % 16) ∷ m) (written f (at + 2) s t rest (others f at b (s ++ t) h)))

-- ---- Four bytes

abbrev Bytes : List ℕ → Type 0
Bytes s = (k : ℕ) → k < length s → get_or s k 0 < 256

four_is : (s : List ℕ) (x : ℕ) (t : List ℕ) → Bytes s → four s ≡ got x t → s ≡ bytes₄ x ++ t
unfolding four two byte pair one and_then bytes₄ bytes₂
four_is [] x t h e = no_got e
four_is (a ∷ []) x t h e = no_got e
four_is (a ∷ b ∷ []) x t h e = no_got e
four_is (a ∷ b ∷ c ∷ []) x t h e = no_got e
four_is (a ∷ b ∷ c ∷ d ∷ s) x t h e =
    let v : (a * 0x100 + b) * 0x10000 + (c * 0x100 + d) ≡ x = cc in
    let r : s ≡ t = cc in
    let la : a < 256 = h 0 (omega arith) in
    let lb : b < 256 = h 1 (omega arith) in
    let lc : c < 256 = h 2 (omega arith) in
    let ld : d < 256 = h 3 (omega arith) in
    let pa : a ≡ x / 0x10000 / 0x100 % 0x100 = omega arith in
    let pb : b ≡ x / 0x10000 % 0x100 = omega arith in
    let pc : c ≡ x / 0x100 % 0x100 = omega arith in
    let pd : d ≡ x % 0x100 = omega arith in
    cc

bytes_after : (x : ℕ) (s : List ℕ) → Bytes (bytes₄ x ++ s) → Bytes s
unfolding bytes₄ bytes₂
bytes_after x s h k l = h (suc (suc (suc (suc k)))) (omega arith)

-- ---- The span

abbrev span_bytes : ℕ → ℕ → List ℕ
span_bytes a b = bytes₄ a ++ bytes₄ b

content_is : (a b : ℕ) (s s₁ s₂ : List ℕ) → Bytes s → four s ≡ got a s₁ → four s₁ ≡ got b s₂ → s ≡ span_bytes a b ++ s₂
content_is a b s s₁ s₂ h p q =
    let first = four_is s a s₁ h p in
    let second = four_is s₁ b s₂ (bytes_after a s₁ (rw first at h)) q in
    first ∙ ap (λ m. bytes₄ a ++ m) second ∙ sym (append_assoc (bytes₄ a) (bytes₄ b) s₂)

module _ (f w : List ℕ) (n : ℕ) (nd : Node) (h : NodeIs f w n nd) where
  -- The sixteen digits after the first two of the node's line.
  pub span_written : (rest : List ℕ) → hex_line (bytes₄ nd.span.start ++ bytes₄ nd.span.end ++ rest) ≡ take 16 (drop (line_start_w w n + 2) f) ++
      hex_line rest
  unfolding line_start_w bytes₄ bytes₂
  span_written rest =
      let start = get_or w (NODES + n) 0 / 2048 in
      let p = parts nd h.content h.frame in
      let bytes : Bytes h.content = λ k l. byte_of_line f start (0x05 ∷ h.content) h.line.line (suc k) (omega arith) in
      let is = content_is p.start p.end h.content p.s₁ p.s₂ bytes p.first p.second in
      let pairs : Pairs f (start + 2) h.content = others f start 0x05 h.content (line_spells f start (0x05 ∷ h.content) h.line.line).pairs in
      rw p.span (written f (start + 2) (span_bytes p.start p.end) p.s₂ rest (rw is at pairs))

  pub span_there : line_start_w w n + 18 ≤ length f
  unfolding line_start_w
  span_there = omega (arith, (kind_at f w n nd h).long, h.line.long, (line_spells f (get_or w (NODES + n) 0 / 2048) (0x05 ∷ h.content) h.line.line).within)
