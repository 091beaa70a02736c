-- The content of a plan's parts.
use Rattle.plan_text.specs.Content.{PlanContent, plan_content}
use Rattle.plan_text.specs.declared.plan.PlanParts.{PlanParts}
use Rattle.std.specs.Option.{option_map}

abbrev pub content_of : PlanParts → PlanContent
content_of parts =
    plan_content parts.license.now parts.version parts.features.items
    (option_map (λ bytes. bytes.items) parts.type_bytes) parts.maps.items parts.programs.items
