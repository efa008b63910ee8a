-- The counting of telemetry frames (CCSDS 132.0-B, 4.1.2.5 and 4.1.2.6), separately for each master channel and each
-- virtual channel.
use Rattle.std.specs.Prelude.{ℕ, ◌+◌, ◌*◌, ◌%◌, List, replicate, slice_index, slice_set}
use Rattle.tc_edges.specs.declared.tm.frame.TmHeader.{TmHeader}

-- the number of frames so far, modulo 256, for each spacecraft and for each of its eight virtual channels
pub record Counted : Type 0 where
  pub masters : List ℕ
  pub channels : List ℕ

unfoldable pub none_yet : Counted
none_yet = record { masters = replicate 1024 0; channels = replicate 8192 0 }

-- the place at which a virtual channel of a spacecraft is counted
abbrev pub count_place : ℕ → ℕ → ℕ
count_place scid vcid = 8 * scid + vcid

-- the header of the next frame of a virtual channel
abbrev pub next_header : Counted → ℕ → ℕ → TmHeader
next_header counts scid vcid = record {
  scid = scid;
  vcid = vcid;
  master_count = slice_index counts.masters scid;
  channel_count = slice_index counts.channels (count_place scid vcid);
}

-- the counts after one more frame of a virtual channel
abbrev pub frame_counted : Counted → ℕ → ℕ → Counted
frame_counted counts scid vcid = record {
  masters = slice_set counts.masters scid ((slice_index counts.masters scid + 1) % 256);
  channels = slice_set counts.channels (count_place scid vcid) ((slice_index counts.channels (count_place scid vcid) + 1) % 256);
}
