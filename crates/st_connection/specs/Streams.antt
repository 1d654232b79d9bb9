-- What a call does to the reader and the writer that it serves.
use Rattle.std.specs.Prelude.{◌≡◌, ℕ, Bool, false, Option, List}
use Rattle.st_connection.specs.declared.streams.Sink as sink
use Rattle.st_connection.specs.declared.streams.Source as source

-- A reader and a writer, before a call and after it. Of the reader: the bytes that are left, where they are known, how many reads were
-- made, whether the last one met the end, and whether one failed. Of the writer: the bytes that it took, and whether a write failed.
pub record Streams : Type 0 where
  pub left_old : Option (List ℕ)
  pub left_new : Option (List ℕ)
  pub reads_old : ℕ
  pub reads_new : ℕ
  pub has_ended : Bool
  pub read_failed : Bool
  pub held_old : Option (List ℕ)
  pub held_new : Option (List ℕ)
  pub write_failed : Bool

-- the streams of a call
abbrev pub streams : {R W : Type 0} → source.Ghosts R → sink.Ghosts W → (reader_old reader_new : R) → (writer_old writer_new : W) → Streams
streams of_reader of_writer reader_old reader_new writer_old writer_new = record {
  left_old = of_reader.left reader_old;
  left_new = of_reader.left reader_new;
  reads_old = of_reader.reads reader_old;
  reads_new = of_reader.reads reader_new;
  has_ended = of_reader.has_ended reader_new;
  read_failed = of_reader.has_failed reader_new;
  held_old = of_writer.held writer_old;
  held_new = of_writer.held writer_new;
  write_failed = of_writer.has_failed writer_new;
}

-- Nothing was read or written.
pub record AreUntouched (s : Streams) : Type 0 where
  pub unread : s.left_new ≡ s.left_old
  pub no_reads : s.reads_new ≡ s.reads_old
  pub reads_well : s.read_failed ≡ false
  pub unwritten : s.held_new ≡ s.held_old
  pub writes_well : s.write_failed ≡ false
