use Rattle.dbm_lines.proofs.Reading.{at_end, at_feed, at_part, counted_on}
use Rattle.dbm_lines.proofs.lines.read_up_to.Goals as goal

pub returns-in-End : goal.returns-in-End
returns-in-End g c =
    let part = c.in_ok-read_part.ensures.part in record {
      line = rw c.of.ensures (at_end c.args.most _ _ _ _ _ c.loop.more
          c.loop.invariant.reading (rw c.in-End.is at part));
      counted = counted_on _ _ _ _ _ _ c.loop.invariant.counted c.in_ok-read_part.ensures.counted;
      room = c.read_part.ensures.room;
    }

pub returns-in-Whole : goal.returns-in-Whole
returns-in-Whole g c =
    let part = c.in_ok-read_part.ensures.part in record {
      line = rw c.of-in-Whole.ensures (at_feed c.args.most _ _ _ _ _ c.loop.more
          c.in-Whole.followed c.loop.invariant.reading (rw c.in-Whole.is at part));
      counted = counted_on _ _ _ _ _ _ c.loop.invariant.counted c.in_ok-read_part.ensures.counted;
      room = c.read_part.ensures.room;
    }

pub loop-preserved : goal.loop-preserved
loop-preserved g c =
    let part = c.in_ok-read_part.ensures.part in record {
      reading = at_part c.args.most _ _ _ _ _ c.loop.more c.loop.invariant.reading
          (rw c.in-Begun.is at part);
      counted = counted_on _ _ _ _ _ _ c.loop.invariant.counted c.in_ok-read_part.ensures.counted;
      length = c.read_part.ensures.length;
      room = c.read_part.ensures.room;
    }
