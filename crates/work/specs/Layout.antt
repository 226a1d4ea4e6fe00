-- Where the regions of the work slice stand: the numbers of the constants in src/lib.rt. Each region starts where the
-- one before it ends; the last ends at 15,793 of 16,384 words.
use Rattle.std.specs.Prelude.{ℕ}

-- ---- What a file said, written once by the reading

abbrev pub NAME-COUNT : ℕ
NAME-COUNT = 0

abbrev pub TYPE-COUNT : ℕ
TYPE-COUNT = 1

abbrev pub PREDICATE-COUNT : ℕ
PREDICATE-COUNT = 2

abbrev pub NODE-COUNT : ℕ
NODE-COUNT = 3

-- one more than the number of the name `value`, or 0
abbrev pub VALUE-NAME : ℕ
VALUE-NAME = 4

abbrev pub MAX-DISTANCE : ℕ
MAX-DISTANCE = 5

abbrev pub MAX-TERM : ℕ
MAX-TERM = 6

-- where the query's line starts, and its length
abbrev pub QUERY : ℕ
QUERY = 7

-- 256 names, a word each: where the line starts times 512, and the number of characters
abbrev pub NAMES : ℕ
NAMES = 16

-- 256 types, two words each: the tag and 16 times the number of parts; the predicate or where the parts start
abbrev pub TYPES : ℕ
TYPES = 272

-- 128 predicates, a word each: the name times 131,072, the key's type times 512, twice the value's type and 1 if there
-- is one
abbrev pub PREDICATES : ℕ
PREDICATES = 784

-- 512 nodes, a word each: where the line starts times 2,048, twice its length in bytes, and 1 if a frame names it
abbrev pub NODES : ℕ
NODES = 912

-- 8,192 words of parts: a field is a word, an alternative two
abbrev pub FIELDS : ℕ
FIELDS = 1424

-- ---- What a run makes

-- inferred records
abbrev pub RECORD-COUNT : ℕ
RECORD-COUNT = 9616

abbrev pub RECORD-FIELD-COUNT : ℕ
RECORD-FIELD-COUNT = 9617

abbrev pub ENV-LEN : ℕ
ENV-LEN = 9618

abbrev pub DIAGNOSTIC-COUNT : ℕ
DIAGNOSTIC-COUNT = 9619

abbrev pub UNKNOWNS : ℕ
UNKNOWNS = 9620

-- where the next line of a diagnostic goes in the answer slice, low half and high half; and 1 where one had no room
abbrev pub PLACE : ℕ
PLACE = 9621

abbrev pub PLACE-HIGH : ℕ
PLACE-HIGH = 9622

abbrev pub FULL : ℕ
FULL = 9623

-- what ends the run early besides its visits: 0 nothing, 1 its first diagnostic, 2 an entry to `unify`; and where it
-- ended so, the visits left
abbrev pub UNTIL : ℕ
UNTIL = 9624

abbrev pub LEFT : ℕ
LEFT = 9625

-- before which entry it is to end, how many there were, and where it ended so the entry's two sides, two words each:
-- the tag and the payload
abbrev pub STOP : ℕ
STOP = 9626

abbrev pub ENTERED : ℕ
ENTERED = 9627

abbrev pub GOT : ℕ
GOT = 9628

abbrev pub EXPECTED : ℕ
EXPECTED = 9630

-- how many marks there are, and how many entries left unmarked
abbrev pub MARK-COUNT : ℕ
MARK-COUNT = 9632

abbrev pub UNUSED-COUNT : ℕ
UNUSED-COUNT = 9633

-- 512 inferred records, a word each: where the fields start times 1,024, and their number
abbrev pub RECORDS : ℕ
RECORDS = 9648

-- 512 fields, two words each: the name times 16 and the tag; the payload
abbrev pub RECORD-FIELDS : ℕ
RECORD-FIELDS = 10160

-- 512 entries, a word each: the variable times 262,144, the node that made it times 512, and the unknown
abbrev pub ENV : ℕ
ENV = 11184

-- 512 marks, a word each: the unknown of an entry
abbrev pub MARKS : ℕ
MARKS = 11696

-- 512 nodes whose entries left unmarked, a word each
abbrev pub UNUSED : ℕ
UNUSED = 12208

-- 512 node types, two words each: the tag, 0 for none, and the payload
abbrev pub TYS : ℕ
TYS = 12720

abbrev pub UNDO-LEN : ℕ
UNDO-LEN = 13744

-- 512 bindings, two words each: the tag, 0 for free, and the payload
abbrev pub BINDINGS : ℕ
BINDINGS = 13745

-- 1,024 entries: an unknown's number, or 65,536 and a node's
abbrev pub UNDO : ℕ
UNDO = 14769

abbrev pub END : ℕ
END = 15793
