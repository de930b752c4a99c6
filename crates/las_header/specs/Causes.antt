-- The causes by number and by name.
use Rattle.std.specs.Prelude.{ℕ, List, codes}
use Rattle.las_header.specs.declared.refusal.Refusal.{Refusal}
use Rattle.las_header.specs.declared.refusal.Refusal.TheVariants as cause

-- the place of the cause in the enum, from 1
abbrev pub cause_number : Refusal → ℕ
cause_number cause.Short = 1
cause_number cause.Magic = 2
cause_number cause.Version = 3
cause_number cause.HeaderSize = 4
cause_number cause.Offset = 5
cause_number cause.Vlrs = 6
cause_number cause.Format = 7
cause_number cause.RecordLength = 8
cause_number cause.Count = 9
cause_number cause.Trailing = 10
cause_number cause.StrayVlr = 11
cause_number cause.NoVlr = 12
cause_number cause.VlrShape = 13
cause_number cause.Compressor = 14
cause_number cause.Items = 15
cause_number cause.ChunkSize = 16
cause_number cause.TooManyChunks = 17
cause_number cause.TablePointer = 18
cause_number cause.Table = 19
cause_number cause.ChunkSum = 20
cause_number (cause.BadChunk _) = 21
cause_number (cause.RawRange _) = 22
cause_number cause.TooManyParts = 23
cause_number cause.PointSum = 24
cause_number cause.Extended = 25
cause_number cause.PointCounts = 26
cause_number cause.NotPacked = 27

-- the name of the cause, in ASCII
abbrev pub cause_name : Refusal → List ℕ
cause_name cause.Short = codes "Short"
cause_name cause.Magic = codes "Magic"
cause_name cause.Version = codes "Version"
cause_name cause.HeaderSize = codes "HeaderSize"
cause_name cause.Offset = codes "Offset"
cause_name cause.Vlrs = codes "Vlrs"
cause_name cause.Format = codes "Format"
cause_name cause.RecordLength = codes "RecordLength"
cause_name cause.Count = codes "Count"
cause_name cause.Trailing = codes "Trailing"
cause_name cause.StrayVlr = codes "StrayVlr"
cause_name cause.NoVlr = codes "NoVlr"
cause_name cause.VlrShape = codes "VlrShape"
cause_name cause.Compressor = codes "Compressor"
cause_name cause.Items = codes "Items"
cause_name cause.ChunkSize = codes "ChunkSize"
cause_name cause.TooManyChunks = codes "TooManyChunks"
cause_name cause.TablePointer = codes "TablePointer"
cause_name cause.Table = codes "Table"
cause_name cause.ChunkSum = codes "ChunkSum"
cause_name (cause.BadChunk _) = codes "BadChunk"
cause_name (cause.RawRange _) = codes "RawRange"
cause_name cause.TooManyParts = codes "TooManyParts"
cause_name cause.PointSum = codes "PointSum"
cause_name cause.Extended = codes "Extended"
cause_name cause.PointCounts = codes "PointCounts"
cause_name cause.NotPacked = codes "NotPacked"
