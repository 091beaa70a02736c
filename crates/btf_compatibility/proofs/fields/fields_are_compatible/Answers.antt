use Rattle.btf_compatibility.proofs.FieldsAgreed.{fields_rest}
use Rattle.btf_compatibility.proofs.FieldsExchanged.{fields-exchanged}
use Rattle.btf_compatibility.proofs.Held.{fields_are_held}
use Rattle.btf_compatibility.proofs.fields.fields_are_compatible.Goals as goal

pub returns-clause-exchanged : goal.returns-clause-exchanged
returns-clause-exchanged c =
    let a = c.args in
    fields-exchanged a.local.now a.local_id a.target.now a.target_id _ c.compare_fields.ensures

pub returns-clause-rests : goal.returns-clause-rests
returns-clause-rests c = fields_rest _ _ _ _

pub returns-clause-held : goal.returns-clause-held
returns-clause-held c = fields_are_held
