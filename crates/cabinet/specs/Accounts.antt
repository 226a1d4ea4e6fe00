-- What the queries of a file are charged to, one after the other.
use Rattle.std.specs.Prelude.{ℕ}
use Rattle.cabinet.specs.declared.Group.{Group}
use Rattle.cabinet.specs.declared.Account.{Account}
use Rattle.cabinet.specs.Cabinet.{nobody, ceiling_of, charged}

-- Without a desk, and with one.
abbrev pub ceiling_in : Account → ℕ
ceiling_in Account.Open = 1048576
ceiling_in (Account.At s) = ceiling_of s.group s.desk

abbrev pub charged_to : Account → ℕ → Account
charged_to Account.Open visits = Account.Open
charged_to (Account.At s) visits = Account.At (record s { group = charged s.group s.desk visits })

-- The group that is charged; no desks, if none is.
abbrev pub group_in : Account → Group
group_in Account.Open = nobody
group_in (Account.At s) = s.group
