-- The tests are those of `push_env_w`.
use borrow.Author.Tests.{lt-ltb, le-ltb}
use Rattle.state.specs.Words.{push_w, push_env_w}
use Rattle.state.proofs.push_env.Goals as goal
use Rattle.state.proofs.push_env.Goals.{else-symbol-lt-SYMBOLS-via-then-symbol-lt-SYMBOLS+then-node-lt-NODES+else-var-lt-UNKNOWNS}
use Rattle.state.proofs.push_env.Goals.{else-symbol-lt-SYMBOLS-via-then-symbol-lt-SYMBOLS+else-node-lt-NODES, else-symbol-lt-SYMBOLS-via-else-symbol-lt-SYMBOLS}

pub returns-then-var-lt-UNKNOWNS : goal.returns-then-var-lt-UNKNOWNS
unfolding push_w push_env_w
returns-then-var-lt-UNKNOWNS c =
    simp (c.push.ensures, c.entry-e.ensures, lt-ltb _ _ c.if-symbol-lt-SYMBOLS.true, lt-ltb _ _ c.if-node-lt-NODES.true, lt-ltb _ _ c.if-var-lt-UNKNOWNS.true)

pub returns-else-symbol-lt-SYMBOLS : goal.returns-else-symbol-lt-SYMBOLS
unfolding push_env_w
returns-else-symbol-lt-SYMBOLS c = elim c.else-symbol-lt-SYMBOLS.branch [
  | else-symbol-lt-SYMBOLS-via-then-symbol-lt-SYMBOLS+then-node-lt-NODES+else-var-lt-UNKNOWNS w ↦
      simp (lt-ltb _ _ w.if-symbol-lt-SYMBOLS.true, lt-ltb _ _ w.if-node-lt-NODES.true, le-ltb _ _ w.if-var-lt-UNKNOWNS.false)
  | else-symbol-lt-SYMBOLS-via-then-symbol-lt-SYMBOLS+else-node-lt-NODES w ↦ simp (lt-ltb _ _ w.if-symbol-lt-SYMBOLS.true, le-ltb _ _ w.if-node-lt-NODES.false)
  | else-symbol-lt-SYMBOLS-via-else-symbol-lt-SYMBOLS w ↦ simp (le-ltb _ _ w.if-symbol-lt-SYMBOLS.false)
]
