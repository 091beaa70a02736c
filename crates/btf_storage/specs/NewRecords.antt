-- The record that is added to a table.
use Rattle.btf_storage.specs.declared.new_record.NewRecord.{NewRecord}
use Rattle.btf_storage.specs.declared.new_record.NewRecord.TheVariants.{Copied, Own}
use Rattle.btf_records.specs.declared.types.BtfType.{BtfType}

abbrev pub record_of : NewRecord → BtfType
record_of (Own t) = t
record_of (Copied t) = t.now
