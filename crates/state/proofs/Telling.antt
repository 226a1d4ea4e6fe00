-- The digits of a span are one part of the file, copied. A diagnostic's line is its kind and span, then its code, then
-- LF; the line with its text follows.
use mathlib.Core.List.{List, [], ◌∷◌, ◌++◌}
use mathlib.Core.Path.{◌≡◌, sym, ap, ◌∙◌}
use Prim.Native.Nat.{ℕ, ◌+◌, ◌-◌, ◌≤◌}
use native.Mathlib.Omega.{arith}
use lib.ListN.{length, take, drop, length-drop}
use lib.Seq.{length-take-le, take_at, drop-drop}
use Rattle.std.proofs.lemmas.List.{take_rest}
use Rattle.unification.specs.Ty.{Row}
use Rattle.unification.specs.Bindings.{Subst, State}
use Rattle.cells.specs.Stands.{Rows, Holds}
use Rattle.format.specs.Syntax.{Node, Span}
use Rattle.format.specs.File.{Described}
use Rattle.meaning.specs.Messages.{message_text}
use Rattle.format.specs.Bytes.{bytes₂, bytes₄, hex_line}
use Rattle.meaning.specs.Answer.{diagnostic_bytes, unused_line, diagnostic_line}
use Rattle.writer.specs.Writes.{Writes, hex_of}
use Rattle.writer.proofs.Writing.{writes_as, writes_to, writes_then, writes_full}
use Rattle.writer.proofs.Digits.{hex_then, hex_full, line_then, line_full}
use Rattle.tree.specs.Nodes.{line_start_w}
use Rattle.tree.specs.Stands.{NodeIs, Stands}
use Rattle.tree.proofs.Spans.{span_written, span_there}
use Rattle.messages.specs.declared.Message.{Message}
use Rattle.messages.specs.Said.{said, OkMessage, WritesCode, WritesMessage}
use Rattle.state.specs.Lines.{SpanAt, diagnosed, WritesSpan, WritesUnusedLine, WritesCodeLine, said_bytes, WritesMessageLine, WritesBothLines}
use Rattle.std.specs.Prelude.{None, Option, Some}

-- ---- A span

-- part is the file from the line's start on
pub span_copied : {f out part digits out' : List ℕ} {at line : ℕ} {r : Option ℕ} → part ≡ take (length f - line) (drop line f) → digits ≡ take 16 (drop 2 part)
    → Writes out at digits out' r → WritesSpan f out at line out' r
span_copied {f} {line = line} p d g =
    let e = d ∙ ap (λ (l : List ℕ). take 16 (drop 2 l)) (p ∙ take_rest f line) ∙ ap (take 16) (drop-drop 2 line f) in
    record { is = λ t b. writes_as e g; long = g.long }

-- The span of a node that was read stands in the node's line.
pub span_at : (f w : List ℕ) (n : ℕ) (nd : Node) → NodeIs f w n nd → SpanAt f (line_start_w w n) nd.span
unfolding hex_line hex_of bytes₄ bytes₂
span_at f w n nd h = record {
  there = span_there f w n nd h;
  digits =
      let room : 16 ≤ length (drop (line_start_w w n + 2) f) = simp length-drop (omega (arith, span_there f w n nd h)) in
      sym (ap (take 16) (span_written f w n nd h [])
      ∙ take_at (take 16 (drop (line_start_w w n + 2) f)) (hex_line []) 16 (length-take-le 16 (drop (line_start_w w n + 2) f) room));
}

-- ---- A line

-- The line's kind and the span.
pub record WritesHead (f out : List ℕ) (at kind line : ℕ) (out' : List ℕ) (r : Option ℕ) : Type 0 where
  pub is : (s : Span) → SpanAt f line s → Writes out at (hex_of (kind ∷ bytes₄ s.start ++ bytes₄ s.end)) out' r
  pub long : length out' ≡ length out

module _ {f out : List ℕ} {at kind line : ℕ} {mid : List ℕ} {h : Option ℕ} (p : Writes out at (hex_of (kind ∷ [])) mid h) where
  pub head_then : {n : ℕ} → h ≡ Some n → {out' : List ℕ} {r : Option ℕ} → WritesSpan f mid n line out' r → WritesHead f out at kind line out' r
  head_then e g = record {
    is = λ s t. hex_then (kind ∷ []) (bytes₄ s.start ++ bytes₄ s.end) p e
        (writes_as t.digits (g.is t.there (omega (arith, (writes_to p e).1, p.long))));
    long = g.long ∙ p.long;
  }

  pub head_full : h ≡ None → WritesHead f out at kind line mid None
  head_full e = record { is = λ s t. hex_full (kind ∷ []) (bytes₄ s.start ++ bytes₄ s.end) p e; long = p.long }

-- ---- The line of an entry that left unmarked
module _ {f w out : List ℕ} {at n : ℕ} {mid : List ℕ} {h : Option ℕ} (line : ℕ) (q : line ≡ line_start_w w n) (p : WritesHead f out at 12 line mid h) where
  pub unused_then : {e : ℕ} → h ≡ Some e → {out' : List ℕ} {r : Option ℕ} → Writes mid e (10 ∷ []) out' r → WritesUnusedLine f w out at n out' r
  unfolding unused_line
  unused_then e g = record { is = λ s t. line_then _ (p.is s (rw q t)) e g; long = g.long ∙ p.long }

  pub unused_full : h ≡ None → WritesUnusedLine f w out at n mid None
  unfolding unused_line
  unused_full e = record { is = λ s t. line_full _ (p.is s (rw q t)) e; long = p.long }

-- ---- The lines of a diagnostic, without LF and with it

-- At the node n, whose span is p.
pub record WritesDiagnostic (f w out : List ℕ) (at n : ℕ) (m : Message) (out' : List ℕ) (r : Option ℕ) : Type 0 where
  pub is : (T : Rows) (s : Subst) (p : Span) → SpanAt f (line_start_w w n) p → Writes out at (hex_of (diagnostic_bytes (diagnosed T s m p))) out' r
  pub long : length out' ≡ length out

pub record WritesSaid (f w out : List ℕ) (at : ℕ) (m : Message) (out' : List ℕ) (r : Option ℕ) : Type 0 where
  pub is : (T : Rows) (d : Described) (st : State) → Stands f w T d → Holds w T st → OkMessage w m
      → Writes out at (hex_of (said_bytes d (said T st.subst m))) out' r
  pub long : length out' ≡ length out

module _ {f w out : List ℕ} {at : ℕ} {m : Message} {mid : List ℕ} {h : Option ℕ} where
  module _ (p : Writes out at (hex_of (10 ∷ [])) mid h) where
    pub said_then : {e : ℕ} → h ≡ Some e → {out' : List ℕ} {r : Option ℕ} → WritesMessage f w mid e m out' r → WritesSaid f w out at m out' r
    said_then e g = record {
      is = λ T d st S H o. hex_then (10 ∷ []) (message_text d.names d.schema (said T st.subst m)) p e
          (g.is T d st S H o (omega (arith, (writes_to p e).1, p.long)));
      long = g.moves.long ∙ p.long;
    }

    pub said_full : h ≡ None → WritesSaid f w out at m mid None
    said_full e = record { is = λ T d st S H o. hex_full (10 ∷ []) (message_text d.names d.schema (said T st.subst m)) p e; long = p.long }

  module _ (p : WritesSaid f w out at m mid h) where
    pub message_then : {e : ℕ} → h ≡ Some e → {out' : List ℕ} {r : Option ℕ} → Writes mid e (10 ∷ []) out' r → WritesMessageLine f w out at m out' r
    message_then e g = record { is = λ T d st S H o. line_then _ (p.is T d st S H o) e g; long = g.long ∙ p.long }

    pub message_full : h ≡ None → WritesMessageLine f w out at m mid None
    message_full e = record { is = λ T d st S H o. line_full _ (p.is T d st S H o) e; long = p.long }

module _ {f w out : List ℕ} {at n : ℕ} {m : Message} {mid : List ℕ} {h : Option ℕ} where
  module _ (line : ℕ) (q : line ≡ line_start_w w n) (p : WritesHead f out at 8 line mid h) where
    pub diagnostic_then : {e : ℕ} → h ≡ Some e → {out' : List ℕ} {r : Option ℕ} → WritesCode mid e m out' r
        → WritesDiagnostic f w out at n m out' r
    unfolding diagnostic_bytes
    diagnostic_then e g = record {
      is = λ T s x t. let b = p.is x (rw q t) in hex_then _ _ b e ((g.is T s).is (omega (arith, (writes_to b e).1, b.long)));
      long = (g.is (λ n. Row.ε) []).moves.long ∙ p.long;
    }

    pub diagnostic_full : h ≡ None → WritesDiagnostic f w out at n m mid None
    unfolding diagnostic_bytes
    diagnostic_full e = record { is = λ T s x t. hex_full _ _ (p.is x (rw q t)) e; long = p.long }

  module _ (p : WritesDiagnostic f w out at n m mid h) where
    pub code_then : {e : ℕ} → h ≡ Some e → {out' : List ℕ} {r : Option ℕ} → Writes mid e (10 ∷ []) out' r → WritesCodeLine f w out at n m out' r
    code_then e g = record { is = λ T s x t. line_then _ (p.is T s x t) e g; long = g.long ∙ p.long }

    pub code_full : h ≡ None → WritesCodeLine f w out at n m mid None
    code_full e = record { is = λ T s x t. line_full _ (p.is T s x t) e; long = p.long }

  module _ (p : WritesCodeLine f w out at n m mid h) where
    pub both_then : {e : ℕ} → h ≡ Some e → {out' : List ℕ} {r : Option ℕ} → WritesMessageLine f w mid e m out' r → WritesBothLines f w out at n m out' r
    unfolding diagnostic_line
    both_then e g = record { is = λ T d st x S H o t. writes_then (p.is T st.subst x t) e (g.is T d st S H o); long = g.long ∙ p.long }

    pub both_full : h ≡ None → WritesBothLines f w out at n m mid None
    unfolding diagnostic_line
    both_full e = record { is = λ T d st x S H o t. writes_full (p.is T st.subst x t) e (hex_line (said_bytes d (said T st.subst m))); long = p.long }
