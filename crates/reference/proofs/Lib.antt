mod Lives
mod Laws
