mod Doubling
