use Rattle.dd_text.specs.Reader.{cursor_of}
use Rattle.dd_text.proofs.ItemReads.{reads_more, reads_shorter}
use Rattle.dd_text.proofs.file_reader.read.Goals as goal

pub loop-byte-smaller : goal.loop-byte-smaller
loop-byte-smaller c = reads_shorter (cursor_of c.loop-byte.reader) (cursor_of c.read_item.new.reader) _ _ c.in_default-read_item.ensures.ok

pub loop-byte-preserved : goal.loop-byte-preserved
loop-byte-preserved c = record {
  row = reads_more c.args.bytes.now (cursor_of c.loop-byte.reader) (cursor_of c.read_item.new.reader) _ _ c.loop-byte.invariant.row c.in_default-read_item.ensures.ok;
  few = c.read_item.ensures.count;
}
