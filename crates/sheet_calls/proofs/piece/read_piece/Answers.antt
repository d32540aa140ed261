-- A byte is fed, or ends a line, whose answer is printed before the lines after it are read at once.
use Rattle.std.proofs.Common.{rules, refl}
use Rattle.sheet_calls.proofs.Readers.{feeding_start, feeding_fed, feeding_ended, feeding_lines}
use Rattle.sheet_calls.proofs.Readers.{feeding_full, feeding_done}
use Rattle.sheet_calls.proofs.piece.read_piece.Goals as goal

pub loop-read-init : goal.loop-read-init
loop-read-init c = feeding_start _ _ _ _ _ c.requires.0

pub returns-then-out-put : goal.returns-then-out-put
returns-then-out-put c =
    feeding_full c.loop-read.invariant c.loop-read-test.true c.if-byte-eq-LINE_FEED.true
    (rw c.line_room.ensures at c.if-out-put.true)

pub loop-read-preserved-then-byte-eq-LINE_FEED : goal.loop-read-preserved-then-byte-eq-LINE_FEED
loop-read-preserved-then-byte-eq-LINE_FEED c =
    let ended = c.end_line-put in
    let lines = c.read_lines in
    let fed =
    feeding_lines
    (feeding_ended c.loop-read.invariant c.loop-read-test.true c.if-byte-eq-LINE_FEED.true
    (rw c.line_room.ensures at c.if-out-put.false) ended.ensures refl ended.auto.second ended.auto.out)
    refl
    lines.ensures.read
    lines.ensures.lent.room
    lines.auto.out in
    search (rules, fed)

pub loop-read-preserved : goal.loop-read-preserved
loop-read-preserved c =
    feeding_fed c.loop-read.invariant c.loop-read-test.true c.if-byte-eq-LINE_FEED.false c.feed-line.ensures

pub returns : goal.returns
returns c = feeding_done c.loop-read.invariant c.loop-read-test.false
